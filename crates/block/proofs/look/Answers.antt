-- `block::look` meets its contract: each return is one law of `seen`.
-- Assumes nothing.
use mathlib.Core.Path.{sym, ◌∙◌}
use Rattle.std.proofs.lemmas.Option.{MatchOption-at_some}
use Rattle.std.proofs.lemmas.Result.{err_from_is_err_and}
use Rattle.table.specs.Lookup.{Stands}
use Rattle.block.proofs.Blocks.{eight, look_10, look_6, look_at}
use Rattle.block.proofs.look.Goals as goal

pub returns-then-not-is_frame : goal.returns-then-not-is_frame
returns-then-not-is_frame c = look_10 _ _ _ (sym c.is_frame.ensures ∙ c.if-not-is_frame.true)

pub number-requires : goal.number-requires
number-requires c = eight _ (sym c.is_frame.ensures ∙ c.if-not-is_frame.false)

pub returns-in_err-row : goal.returns-in_err-row
returns-in_err-row c =
    let p = err_from_is_err_and c.from_residual.result c.from_residual.ensures.1 in
    let r = c.in_err-row.ensures in
    rw (p.1, p.2) (look_6 _ _ _ (sym c.is_frame.ensures ∙ c.if-not-is_frame.false) _ _ c.find.ensures c.number.ensures r.ok_part r.value)

pub fitted-requires : goal.fitted-requires
fitted-requires c =
    let s = MatchOption-at_some _ (Stands c.args.t.now) _ c.in_ok-row.ensures.ok_part c.find.ensures.stands in
    (sym c.is_frame.ensures ∙ c.if-not-is_frame.false, s.rules)

pub returns : goal.returns
returns c = look_at _ _ _ (sym c.is_frame.ensures ∙ c.if-not-is_frame.false) _ _ c.find.ensures c.number.ensures c.in_ok-row.ensures.ok_part c.fitted.ensures
