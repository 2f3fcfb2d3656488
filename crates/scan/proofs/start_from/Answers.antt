-- `scan::start_from` meets its contract. The invariant: no start stands at the places passed.
-- Assumes nothing.
use native.Mathlib.Omega.{arith}
use Rattle.scan.proofs.Starts.{no_dollar, nothing, go_on}
use Rattle.scan.proofs.start_from.Goals as goal

pub loop-k-init : goal.loop-k-init
loop-k-init c = no_dollar _ c.skip_eights-k.ensures

pub returns-then-next-s : goal.returns-then-next-s
returns-then-next-s c = c.loop-k.invariant

pub bounds-s-next : goal.bounds-s-next
bounds-s-next c =
    omega (arith, c.loop-k-test.true, c.if-next-s.false)

pub returns-then-s-next-eq64 : goal.returns-then-s-next-eq64
returns-then-s-next-eq64 c = c.loop-k.invariant

pub skip_eights-k-requires-then-s-k-eq36 : goal.skip_eights-k-requires-then-s-k-eq36
skip_eights-k-requires-then-s-k-eq36 c = omega (arith, c.loop-k-test.true)

pub loop-k-smaller-then-s-k-eq36 : goal.loop-k-smaller-then-s-k-eq36
loop-k-smaller-then-s-k-eq36 c =
    omega (arith, c.loop-k-test.true, c.skip_eights-k-then-s-k-eq36.ensures.from)

pub loop-k-preserved-then-s-k-eq36 : goal.loop-k-preserved-then-s-k-eq36
loop-k-preserved-then-s-k-eq36 c =
    go_on _ c.loop-k.invariant (λ q. (omega (arith, c.loop-k-test.true, c.if-next-s.false), c.if-s-next-eq64.false)) c.skip_eights-k-then-s-k-eq36.ensures

pub loop-k-preserved : goal.loop-k-preserved
loop-k-preserved c =
    go_on _ c.loop-k.invariant (λ q. absurd (c.if-s-k-eq36.false q)) (nothing _ _ (omega (arith, c.loop-k-test.true)))

pub returns : goal.returns
returns c = c.loop-k.invariant
