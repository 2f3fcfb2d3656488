-- `writes::write` meets its contract: refused, or written by the table in force.
-- Assumes nothing.
use mathlib.Core.Path.{sym}
use Rattle.std.proofs.lemmas.Result.{err_from_is_err_and}
use Rattle.writes.proofs.Asking.{write_refused_lem, write_asked}
use Rattle.writes.proofs.write.Goals as goal

pub returns-in_err-table : goal.returns-in_err-table
returns-in_err-table c =
    let p = err_from_is_err_and c.from_residual.result c.from_residual.ensures.1 in
    rw (p.1, p.2) (write_refused_lem _ _ _ _ (sym c.in_err-table.ensures.refusal_value))

pub write-requires : goal.write-requires
write-requires c = c.in_ok-table.ensures.table_value.1

pub returns : goal.returns
returns c =
    let t = c.in_ok-table.ensures in
    write_asked _ _ _ _ (sym t.refusal_value) (rw (← t.table_value.0) c.write.ensures)
