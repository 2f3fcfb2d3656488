-- What the code's view of a block row says (rules T7, T11, T17): the block row of the decoded table.
-- Assumes nothing.
use Rattle.std.specs.Prelude.{List, map, ℕ}
use Rattle.rows.specs.declared.FieldRow.{FieldRow}
use Rattle.rows.specs.Places.{field_of}
use Rattle.table.specs.Rows.{BlockRow}
use Rattle.table.specs.declared.Shape.{Shape}

-- T11: of field rows as they stand
abbrev pub fields_of : List (List ℕ) → List FieldRow
fields_of rows = map field_of rows

abbrev pub shape_says : Shape → BlockRow
shape_says s =
    record { number = s.number; highest = s.highest; body = fields_of s.body.now; subs = fields_of s.subs.now; firsts = s.firsts }
