-- `epoch::second_field` meets its contract: each return is one law of `second_field`.
-- Assumes nothing.
use mathlib.Core.Path.{ap, ◌∙◌}
use Rattle.std.proofs.lemmas.Result.{err_from_is_err_and}
use Rattle.record.specs.Calls.{sub_slice}
use Rattle.epoch.proofs.Fields.{second_refused, second_none, second_says}
use Rattle.epoch.proofs.second_field.Goals as goal

pub returns-in_err-row : goal.returns-in_err-row
returns-in_err-row c =
    let p = err_from_is_err_and c.from_residual.result c.from_residual.ensures.1 in
    rw (p.1, p.2) (second_refused _ _ _ _ _ c.in_err-row.ensures)

pub returns-then-nest-m : goal.returns-then-nest-m
returns-then-nest-m c = second_none _ _ _ _ _ c.in_ok-row.ensures c.if-nest-m.true

pub returns : goal.returns
returns c =
    second_says _ _ _ _ _ c.in_ok-row.ensures c.if-nest-m.false c.second_rows.ensures c.revision.ensures
    (c.part-bytes.ensures.result_value.0 ∙ ap (sub_slice _) c.second_span-span.ensures) c.field_in.ensures
