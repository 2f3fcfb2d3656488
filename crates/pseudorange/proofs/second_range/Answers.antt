-- `pseudorange::second_range` meets its contract: each return is one law of V12's sum.
-- Assumes nothing.
use mathlib.Core.Path.{◌∙◌}
use native.Mathlib.Omega.{arith}
use mir.Syntax.{w64}
use mir.ValLaws.{to_z_pos}
use Rattle.value.proofs.Sign.{below_value}
use Rattle.pseudorange.proofs.Ranges.{low_3, second_up, second_below, second_above}
use Rattle.pseudorange.proofs.second_range.Goals as goal

pub returns-then-msb-lt4 : goal.returns-then-msb-lt4
returns-then-msb-lt4 c = let a = c.args in to_z_pos w64 _ (omega arith) ∙ second_up a.first a.offsets a.lsb _ (low_3 a.offsets) (omega arith)

pub returns-then-first-down : goal.returns-then-first-down
returns-then-first-down c = let a = c.args in below_value _ (omega arith) ∙ second_below a.first a.offsets a.lsb _ (low_3 a.offsets) (omega arith) (omega arith) (omega arith)

pub returns : goal.returns
returns c = let a = c.args in to_z_pos w64 _ (omega arith) ∙ second_above a.first a.offsets a.lsb _ (low_3 a.offsets) (omega arith) (omega arith) (omega arith)
