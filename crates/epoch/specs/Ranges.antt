-- What Range and Range2 answer, of a decoded table and a block's bytes: which fields V11 and V12 read, and when there is no range (rules
-- C16, R9).
-- Assumes nothing.
use Rattle.std.specs.Prelude.{ℕ, Bool, not, ◌&&◌, cond, List, eqb, Option, None, Some}
use Rattle.std.specs.Option.{option_zip}
use Rattle.kinds.specs.Types.{u1, u2, u4}
use Rattle.rows.specs.declared.FieldRow.{FieldRow}
use Rattle.table.specs.Lists.{pick}
use Rattle.table.specs.Rows.{BlockRow, Table, one_level, first_rows, second_rows}
use Rattle.value.specs.Said.{FieldSaid, unsigned, signed, single, double, do_not_use, not_in_revision, field_refused}
use Rattle.walk.specs.declared.Span.{Span}
use Rattle.walk.specs.declared.Nest.{Nest}
use Rattle.walk.specs.Walk.{seconds}
use Rattle.block.specs.Block.{number_in, revision_in, nest_of, Seen, refused_by, row, seen_sub}
use Rattle.record.specs.Calls.{field_said, sub_slice}
use Rattle.pseudorange.specs.Range.{range_said, range2_said}

-- R9: the number, where an unsigned one is answered
abbrev pub unsigned_of : FieldSaid → Option ℕ
unsigned_of (unsigned n) = Some n
unsigned_of (signed z) = None
unsigned_of (single b) = None
unsigned_of (double b) = None
unsigned_of do_not_use = None
unsigned_of not_in_revision = None
unsigned_of (field_refused n) = None

-- R9: the number in a field, in these bytes, where its row is there and of the type
abbrev pub unsigned_at : ℕ → List ℕ → ℕ → Option FieldRow → Option ℕ
unsigned_at revision s kind None = None
unsigned_at revision s kind (Some f) = cond (eqb f.kind kind) (unsigned_of (field_said revision s f)) None

-- V11, V12: of these rows field 3, a u1, and field j, of the type given
unfoldable pub pair_at : ℕ → List ℕ → ℕ → ℕ → List FieldRow → Option (ℕ × ℕ)
pair_at revision s j kind rows = option_zip (unsigned_at revision s u1 (pick rows 3)) (unsigned_at revision s kind (pick rows j))

-- V11: Misc and CodeLSB of a first-level sub-block
abbrev pub first_pair : BlockRow → List ℕ → Nest → Option (ℕ × ℕ)
first_pair r b n = pair_at (revision_in b) (sub_slice b n.first) 4 u4 (first_rows r)

-- V12: OffsetsMSB and CodeOffsetLSB of a second-level one
abbrev pub second_pair : BlockRow → List ℕ → Option Span → Option (ℕ × ℕ)
second_pair r b None = None
second_pair r b (Some s) = pair_at (revision_in b) (sub_slice b s) 6 u2 (second_rows r)

-- R9: a MeasEpoch, by a row of two levels
abbrev pub is_epoch : List ℕ → BlockRow → Bool
is_epoch b r = eqb (number_in b) 4027 && not (one_level r)

-- C16: Range
abbrev pub range_by : List ℕ → ℕ → Seen → FieldSaid
range_by b k (refused_by n) = field_refused n
range_by b k (row r) = cond (is_epoch b r) (range_said (first_pair r b (nest_of r b k))) (field_refused 9)

unfoldable pub range_field : Table → List ℕ → ℕ → FieldSaid
range_field tab b k = range_by b k (seen_sub tab b k)

-- C16: Range2
abbrev pub range2_by : List ℕ → ℕ → ℕ → Seen → FieldSaid
range2_by b k m (refused_by n) = field_refused n
range2_by b k m (row r) =
    cond (is_epoch b r) (range2_said (first_pair r b (nest_of r b k)) (second_pair r b (pick (seconds (nest_of r b k)) m))) (field_refused 9)

unfoldable pub range2_field : Table → List ℕ → ℕ → ℕ → FieldSaid
range2_field tab b k m = range2_by b k m (seen_sub tab b k)
