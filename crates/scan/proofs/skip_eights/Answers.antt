-- `scan::skip_eights` meets its contract. The invariant: no first sync byte stands in what is passed.
-- Assumes nothing.
use mathlib.Core.Path.{◌≡◌, subst}
use Prim.Native.Nat.{◌+◌}
use native.Mathlib.Omega.{arith}
use Rattle.scan.specs.Scan.{NoDollar}
use Rattle.scan.proofs.Eights.{no_dollar_on}
use Rattle.wire.proofs.Tests.{neither_left, neither_right}
use Rattle.scan.proofs.skip_eights.Goals as goal

pub loop-k-init : goal.loop-k-init
loop-k-init c = record { from = omega arith; within = omega arith; none = λ k l m e. let f : ⊥ = omega arith in absurd f }

pub overflow_sub-s : goal.overflow_sub-s
overflow_sub-s c = c.loop-k.invariant.within

pub returns-then-low-high : goal.returns-then-low-high
returns-then-low-high c = c.loop-k.invariant

pub loop-k-preserved : goal.loop-k-preserved
loop-k-preserved c =
    let l = c.loop-k in
    let a = c.args in
    let s = a.s.now in
    let low = c.dollar_in_four-low.ensures (neither_left c.dollar_in_four-low.result c.dollar_in_four-high.result c.if-low-high.false) in
    let high = c.dollar_in_four-high.ensures (neither_right c.dollar_in_four-low.result c.dollar_in_four-high.result c.if-low-high.false) in
    let e : l.k + 4 + 4 ≡ l.k + 8 = omega arith in
    subst (NoDollar s a.i) e (no_dollar_on s l.invariant (no_dollar_on s low high))

pub returns : goal.returns
returns c = c.loop-k.invariant
