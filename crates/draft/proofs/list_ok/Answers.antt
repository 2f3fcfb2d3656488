-- `draft::list_ok` meets its contract: what is left of the rows and of the list gives the whole.
-- Assumes nothing.
use mathlib.Core.List.{[]}
use mathlib.Core.Path.{sym, ◌∙◌}
use native.Mathlib.Omega.{arith}
use Rattle.draft.proofs.Walks.{list_done, list_stop, list_go, lists_not, lists_rest}
use Rattle.draft.proofs.list_ok.Goals as goal

pub returns-then-not-wanted_ok : goal.returns-then-not-wanted_ok
returns-then-not-wanted_ok c =
    let l = c.loop-field in
    lists_not _ _ _ _ _
    (list_stop c.args.fields.now _ l.field-index _ _ l.next _ l.invariant.3 _ [] c.field-f.ensures.0 (omega arith) c.take-t.result c.take-t.ensures
    (sym c.wanted_ok.ensures ∙ c.if-not-wanted_ok.true))

pub loop-field-preserved : goal.loop-field-preserved
loop-field-preserved c =
    let l = c.loop-field in
    let t = c.take-t.ensures in (
      omega (arith, t.onward),
      t.within,
      t.subs ∙ l.invariant.2,
      list_go c.args.fields.now _ l.field-index _ _ l.next _ l.invariant.3 _ [] c.field-f.ensures.0 (omega arith) c.take-t.result t
          (sym c.wanted_ok.ensures ∙ c.if-not-wanted_ok.false),
    )

pub returns : goal.returns
returns c =
    let l = c.loop-field in
    lists_rest _ _ _ _ _ l.next l.invariant.0 l.invariant.2 c.rest_ok.ensures (list_done c.args.fields.now _ l.field-index _ _ l.next _ l.invariant.3 (omega arith))
