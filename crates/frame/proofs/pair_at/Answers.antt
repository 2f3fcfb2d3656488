-- `frame::pair_at` meets its contract: two bytes, by the definition.
-- Assumes nothing.
use native.Mathlib.Omega.{arith}
use Rattle.wire.specs.Little.{little_at}
use Rattle.frame.proofs.pair_at.Goals as goal

pub returns : goal.returns
unfolding little_at
returns c = omega (arith, c.pair.ensures, c.at-2.ensures, c.at.ensures)
