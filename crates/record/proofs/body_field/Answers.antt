-- `record::body_field` meets its contract: the row's field, or why there is no row.
-- Assumes nothing.
use Rattle.std.proofs.lemmas.Result.{err_from_is_err_and}
use Rattle.record.proofs.Calls.{body_refused, body_says, body_ends}
use Rattle.record.proofs.body_field.Goals as goal

pub returns-in_err-row : goal.returns-in_err-row
returns-in_err-row c =
    let p = err_from_is_err_and c.from_residual.result c.from_residual.ensures.1 in
    rw (p.1, p.2) (body_refused _ _ _ c.in_err-row.ensures)

pub field_in-requires : goal.field_in-requires
field_in-requires c = body_ends _ _ c.args.i c.in_ok-row.ensures c.revision.ensures

pub returns : goal.returns
returns c = body_says _ _ _ c.in_ok-row.ensures c.revision.ensures c.field_in.ensures
