-- `table::fields::fields_ok` meets its contract. The invariant: the pass over the rows that are left gives the pass over all of them.
-- Assumes nothing.
use Rattle.std.proofs.Common.{◌≡◌, drop}
use Rattle.table.specs.Code.{field_pass}
use Rattle.table.specs.Shape.{fields_of}
use Rattle.table.proofs.fields.fields_ok.Given as goal

abbrev pub invariant-loop-row : goal.invariant-loop-row
invariant-loop-row l =
    field_pass l.least 0 l.highest (fields_of l.rows) ≡ field_pass l.low l.rev l.highest (fields_of (drop l.row-index l.rows))
