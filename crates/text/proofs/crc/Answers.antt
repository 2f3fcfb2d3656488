-- `text::crc` meets its contract: a space, and a number of 16 bits takes four digits.
-- Assumes nothing.
use mathlib.Core.Path.{ap, ◌∙◌}
use mathlib.Core.List.{List, [], ◌∷◌, ◌++◌}
use Prim.Native.Nat.{ℕ, ◌<◌}
use native.Mathlib.Omega.{arith}
use lib.ListN.{take}
use Rattle.text.specs.Numbers.{four_hex}
use Rattle.text.proofs.Decimals.{four_are}
use Rattle.text.proofs.Joins.{joined, hex_is}
use Rattle.text.proofs.crc.Goals as goal

pub put-requires : goal.put-requires
put-requires c =
    let a = c.args in
    let d = c.hex-k in
    omega (arith, c.requires, c.put-gap.ensures.value, d.ensures.in_bounds.1, four_are c.from.result d.result (omega (arith, c.ranges.n)) d.ensures.len)

pub returns-clause-value : goal.returns-clause-value
returns-clause-value c =
    let a = c.args in
    let d = c.hex-k in
    omega (arith, c.put.ensures.value, c.put-gap.ensures.value, d.ensures.in_bounds.1, four_are c.from.result d.result (omega (arith, c.ranges.n)) d.ensures.len)

pub returns-clause-out_after : goal.returns-clause-out_after
returns-clause-out_after c =
    let a = c.args in
    let d = c.hex-k in
    let g = c.put-gap in
    let l : c.from.result < 65536 = omega (arith, c.ranges.n) in
    let e = hex_is c.from.result d.result l d.ensures.len in
    let f = ap (λ (h : List ℕ). take g.result g.new.out ++ h) (d.ensures.digits ∙ e ∙ ap four_hex c.from.ensures) in
    joined (take a.at a.out.now) (32 ∷ []) (four_hex a.n) g.ensures.out_after (c.put.ensures.out_after ∙ f)
