-- `table::blocks::rows_ok` meets its contract. The invariant: the pass over the rows that are left gives the pass over all of them.
-- Assumes nothing.
use Rattle.std.proofs.Common.{◌≡◌, ◌≤◌, ◌+◌, ◌-◌, ◌*◌, length}
use Rattle.table.specs.Code.{row_pass}
use Rattle.rows.specs.Places.{field_count, row_at}
use Rattle.table.specs.Decode.{rows_of}
use Rattle.table.specs.Lists.{tabulate}
use Rattle.table.proofs.blocks.rows_ok.Given as goal

abbrev pub invariant-loop-i : goal.invariant-loop-i
invariant-loop-i l =
    (l.i ≤ l.count) × (l.used ≤ l.fields) × (l.fields ≤ 2048) × (l.at + 8 * l.count ≤ length l.t)
    × (row_pass l.t 0 0 (field_count l.t) (rows_of l.t) ≡ row_pass l.t l.least l.used l.fields (tabulate (row_at l.t) l.i (l.count - l.i)))
