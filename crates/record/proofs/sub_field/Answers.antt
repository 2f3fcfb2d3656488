-- `record::sub_field` meets its contract: the first level's field, or why there is none.
-- Assumes nothing.
use Rattle.std.proofs.lemmas.Result.{err_from_is_err_and}
use Rattle.record.proofs.Calls.{sub_refused, sub_says, sub_ends}
use Rattle.record.proofs.sub_field.Goals as goal

pub returns-in_err-row : goal.returns-in_err-row
returns-in_err-row c =
    let p = err_from_is_err_and c.from_residual.result c.from_residual.ensures.1 in
    rw (p.1, p.2) (sub_refused _ _ _ c.in_err-row.ensures _)

pub field_in-requires : goal.field_in-requires
field_in-requires c = sub_ends _ _ _ c.in_ok-row.ensures c.revision.ensures c.part-span.ensures.result_value.1 c.first_rows.ensures

pub returns : goal.returns
returns c = sub_says _ _ _ c.in_ok-row.ensures c.args.j c.revision.ensures c.part-span.ensures.result_value.0 c.first_rows.ensures c.field_in.ensures
