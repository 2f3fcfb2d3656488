-- What Sub2 answers, of a decoded table and a block's bytes (rules C16, T21).
-- Assumes nothing.
use Rattle.std.specs.Prelude.{ℕ, List, Option, None, Some}
use Rattle.table.specs.Lists.{pick}
use Rattle.table.specs.Rows.{BlockRow, Table, second_rows}
use Rattle.value.specs.Said.{FieldSaid, field_refused}
use Rattle.walk.specs.declared.Span.{Span}
use Rattle.walk.specs.Walk.{seconds}
use Rattle.block.specs.Block.{revision_in, nest_of, Seen, refused_by, row, seen_sub}
use Rattle.record.specs.Calls.{field_or9, sub_slice}

-- R9: no such second-level sub-block; by a row of one level none is nested
abbrev pub in_second : List ℕ → BlockRow → ℕ → Option Span → FieldSaid
in_second b r j None = field_refused 9
in_second b r j (Some s) = field_or9 (revision_in b) (sub_slice b s) (pick (second_rows r) j)

-- C16: Sub2, with the numbers k, m and j
abbrev pub second_by : List ℕ → ℕ → ℕ → ℕ → Seen → FieldSaid
second_by b k m j (refused_by n) = field_refused n
second_by b k m j (row r) = in_second b r j (pick (seconds (nest_of r b k)) m)

unfoldable pub second_field : Table → List ℕ → ℕ → ℕ → ℕ → FieldSaid
second_field tab b k m j = second_by b k m j (seen_sub tab b k)
