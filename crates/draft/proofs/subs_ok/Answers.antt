-- `draft::subs_ok` meets its contract: what is left of the sub-blocks gives the whole.
-- Assumes nothing.
use mathlib.Core.Path.{◌∙◌}
use native.Mathlib.Omega.{arith}
use Rattle.draft.proofs.Walks.{begun, subs_done, subs_many, subs_wrong, subs_more}
use Rattle.draft.proofs.subs_ok.Goals as goal

pub loop-next-init : goal.loop-next-init
loop-next-init c = let h = c.requires in begun _ _ _ _ h.0 h.1

pub returns-in_err-next : goal.returns-in_err-next
returns-in_err-next c =
    let l = c.loop-next in
    c.from_residual.ensures ∙ subs_wrong _ _ _ _ l.n l.next l.invariant (omega arith) c.in_err-next.ensures.is

pub returns-then-n-ge-MOST : goal.returns-then-n-ge-MOST
returns-then-n-ge-MOST c =
    let l = c.loop-next in
    subs_many _ _ _ _ l.n l.next l.invariant (omega arith) (omega arith)

pub loop-next-preserved : goal.loop-next-preserved
loop-next-preserved c =
    let l = c.loop-next in
    let w = c.in_ok-next.ensures in
    subs_more _ _ _ _ l.n l.next l.invariant (omega arith) w.is (omega arith) w.left

pub returns : goal.returns
returns c =
    let l = c.loop-next in
    subs_done _ _ _ _ l.n l.next l.invariant (omega arith)
