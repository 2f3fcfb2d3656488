-- `records::sub_place` meets its contract: refused, or answered by the table in force.
-- Assumes nothing.
use Rattle.std.proofs.lemmas.Result.{err_from_is_err_and}
use Rattle.records.specs.Calls.{sub_place_of, sub_bytes_refusal}
use Rattle.records.proofs.sub_place.Goals as goal

pub returns-in_err-table-clause-handed_value : goal.returns-in_err-table-clause-handed_value
unfolding sub_bytes_refusal
returns-in_err-table-clause-handed_value c =
    let p = err_from_is_err_and c.from_residual.result c.from_residual.ensures.1 in
    rw (p.1, p.2, ← c.in_err-table.ensures.refusal_value)

pub returns-in_err-table-clause-span_value : goal.returns-in_err-table-clause-span_value
unfolding sub_place_of
returns-in_err-table-clause-span_value c =
    let p = err_from_is_err_and c.from_residual.result c.from_residual.ensures.1 in
    rw (p.1, ← c.in_err-table.ensures.refusal_value)

pub returns-clause-handed_value : goal.returns-clause-handed_value
unfolding sub_bytes_refusal
returns-clause-handed_value c =
    let t = c.in_ok-table.ensures in
    rw (← t.refusal_value) (rw t.table_value.0 at c.sub_place.ensures.handed_value)

pub returns-clause-span_value : goal.returns-clause-span_value
unfolding sub_place_of
returns-clause-span_value c =
    let t = c.in_ok-table.ensures in
    rw (← t.refusal_value) (rw t.table_value.0 at c.sub_place.ensures.span_value)
