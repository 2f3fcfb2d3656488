-- `wire::u2` meets its contract: two bytes, by the definition.
-- Assumes nothing.
use native.Mathlib.Omega.{arith}
use Rattle.wire.specs.Little.{little_at}
use Rattle.wire.proofs.u2.Goals as goal

pub returns : goal.returns
unfolding little_at
returns c = omega arith
