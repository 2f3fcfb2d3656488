-- `records::sub` meets its contract: refused, or answered by the table in force.
-- Assumes nothing.
use Rattle.std.proofs.lemmas.Result.{err_from_is_err_and}
use Rattle.record.proofs.Calls.{refuses}
use Rattle.records.specs.Calls.{sub_of}
use Rattle.records.proofs.sub.Goals as goal

pub returns-in_err-table : goal.returns-in_err-table
unfolding sub_of
returns-in_err-table c =
    let p = err_from_is_err_and c.from_residual.result c.from_residual.ensures.1 in
    rw (p.1, p.2, ← c.in_err-table.ensures.refusal_value) (refuses _)

pub returns : goal.returns
unfolding sub_of
returns c =
    let t = c.in_ok-table.ensures in
    rw (← t.refusal_value) (rw t.table_value.0 at c.sub_field.ensures)
