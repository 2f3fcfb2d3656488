-- `record::tow` meets its contract: u4 at 8 ends by 14.
-- Assumes nothing.
use native.Mathlib.Omega.{arith}
use Rattle.kinds.specs.Types.{size_of}
use Rattle.record.proofs.tow.Goals as goal

pub stamped-requires : goal.stamped-requires
unfolding size_of
stamped-requires c = omega arith
