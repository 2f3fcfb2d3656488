-- `draft::lists_ok` meets its contract: each return is one law of a row with sub-fields, or without.
-- Assumes nothing.
use mathlib.Core.Path.{◌∙◌}
use Rattle.draft.proofs.Drafts.{body_not, body_all, lists_set, lists_subs}
use Rattle.draft.proofs.lists_ok.Goals as goal

pub returns-in_err-end : goal.returns-in_err-end
returns-in_err-end c =
    let a = c.args in
    c.from_residual.ensures ∙ body_not a.row a.revision a.kinds.now a.bits.now c.if-row-eq0.true c.in_err-end.ensures

pub returns-then-row-eq0 : goal.returns-then-row-eq0
returns-then-row-eq0 c =
    let a = c.args in
    c.then_some.ensures ∙ body_all a.row a.revision a.kinds.now a.bits.now c.if-row-eq0.true c.in_ok-end.ensures

pub returns-in_err-p : goal.returns-in_err-p
returns-in_err-p c =
    let a = c.args in
    c.from_residual-in_err-p.ensures ∙ lists_set a.row a.revision a.kinds.now a.bits.now c.if-row-eq0.false c.in_err-p.ensures

pub subs_ok-requires : goal.subs_ok-requires
subs_ok-requires c =
    let l = c.in_ok-p.ensures.left c.args.bits.now in
    (l.within, l.stops)

pub returns : goal.returns
returns c =
    let a = c.args in
    lists_subs a.row a.revision a.kinds.now a.bits.now c.if-row-eq0.false c.in_ok-p.ensures c.subs_ok.ensures
