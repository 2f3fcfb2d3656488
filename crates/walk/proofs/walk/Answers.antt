-- `walk::walk` meets its contract: what is left of the sub-blocks gives the whole.
-- Assumes nothing.
use mathlib.Core.Bool.{cond}
use mathlib.Core.Path.{◌≡◌}
use native.Mathlib.Omega.{arith}
use lib.Dec.{eqb}
use borrow.Author.Tests.{eq-eqb, ne_eqb}
use Rattle.walk.proofs.Walks.{enters, all_walked, walks_on}
use Rattle.walk.proofs.walk.Goals as goal
use Rattle.walk.proofs.walk.Goals.{then-i-k, else-i-k}

pub loop-i-init : goal.loop-i-init
loop-i-init c = enters _ _ _

pub loop-i-preserved : goal.loop-i-preserved
loop-i-preserved c =
    let n = c.nest_at-n in
    let e = c.end_of-at.ensures in
    let m : c.if-i-k.nest ≡ cond (eqb c.loop-i.i c.args.k) n.result c.loop-i.nest =
    elim c.if-i-k.branch [
      | then-i-k w ↦ rw (w.nest-is, eq-eqb _ _ w.if-i-k.true)
      | else-i-k w ↦ rw (w.nest-is, ne_eqb _ _ w.if-i-k.false)
    ] in
    walks_on _ _ _ _ _ _ _ c.loop-i.invariant (omega (arith, c.byte_or_0-count.ensures)) n.result n.ensures.value c.end_of-at.result e.0 e.1 _ m

pub returns : goal.returns
returns c =
    let r = c.byte_or_0-count.ensures in
    all_walked _ _ _ _ _ _ _ c.loop-i.invariant (omega arith)
