-- `record::wnc` meets its contract: u2 at 12 ends by 14.
-- Assumes nothing.
use native.Mathlib.Omega.{arith}
use Rattle.kinds.specs.Types.{size_of}
use Rattle.record.proofs.wnc.Goals as goal

pub stamped-requires : goal.stamped-requires
unfolding size_of
stamped-requires c = omega arith
