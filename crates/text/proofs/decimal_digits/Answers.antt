-- `text::decimal_digits` meets its contract: the fewest digits are the decimal.
-- Assumes nothing.
use mathlib.Core.Path.{ap, ◌∙◌}
use mathlib.Core.List.{List, ◌++◌}
use Prim.Native.Nat.{ℕ}
use native.Mathlib.Omega.{arith}
use lib.ListN.{take}
use Rattle.text.proofs.Joins.{decimal_is}
use Rattle.text.proofs.decimal_digits.Goals as goal

pub returns-clause-out_after : goal.returns-clause-out_after
returns-clause-out_after c =
    let a = c.args in
    let d = c.decimal-k in
    let e = decimal_is a.n d.result (omega (arith, c.ranges.n)) d.ensures.len in
    c.put_digits.ensures.out_after ∙ ap (λ (l : List ℕ). take a.at a.out.now ++ l) (d.ensures.digits ∙ e)
