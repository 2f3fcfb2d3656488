-- `value::signed` meets its contract: one law for every width, the distance below -1.
-- Assumes nothing.
use mathlib.Core.Path.{ap, ◌∙◌}
use Prim.Native.Nat.{◌-◌}
use borrow.Author.Tests.{lt-ltb, le-ltb}
use native.Mathlib.Omega.{arith}
use lib.IntN.{negsuc}
use mir.Syntax.{w64}
use mir.ValLaws.{to_z_pos}
use Rattle.value.proofs.Sign.{below_value}
use Rattle.value.specs.Bits.{with_sign}
use Rattle.value.proofs.signed.Goals as goal

pub returns-then-x-half : goal.returns-then-x-half
unfolding with_sign
returns-then-x-half c = rw (lt-ltb _ _ c.if-x-half.true) (to_z_pos w64 _ (omega arith))

pub returns-else-x-half : goal.returns-else-x-half
unfolding with_sign
returns-else-x-half c = rw (le-ltb _ _ c.if-x-half.false) (below_value (c.args.half - 1 - (c.args.x - c.args.half)) (omega arith) ∙ ap negsuc (omega arith))
