-- What each record call answers, of a decoded table and a block's bytes (rules C13, V5 to V8).
-- Assumes nothing.
use Rattle.std.specs.Prelude.{ℕ, List, [], cond, take, drop, leb, Option, None, Some}
use Rattle.frame.specs.Frame.{whole_frame}
use Rattle.kinds.specs.Types.{u2, u4}
use Rattle.kinds.specs.Marks.{ones}
use Rattle.rows.specs.declared.FieldRow.{FieldRow}
use Rattle.table.specs.Lists.{pick}
use Rattle.table.specs.Rows.{Table, first_rows}
use Rattle.table.specs.Lookup.{carried}
use Rattle.value.specs.Said.{FieldSaid, not_in_revision, field_refused}
use Rattle.value.specs.Bits.{field_value}
use Rattle.walk.specs.declared.Span.{Span}
use Rattle.block.specs.Block.{revision_in, length_in, sub_span, Seen, refused_by, row, seen, seen_sub}

-- V7: a field in these bytes: not in this revision, or what it says
unfoldable pub field_said : ℕ → List ℕ → FieldRow → FieldSaid
field_said revision s f = cond (carried revision f) (field_value s f) not_in_revision

-- R9: no row has the number
abbrev pub field_or9 : ℕ → List ℕ → Option FieldRow → FieldSaid
field_or9 revision s None = field_refused 9
field_or9 revision s (Some f) = field_said revision s f

-- C13: Body, with the number i
abbrev pub body_by : List ℕ → ℕ → Seen → FieldSaid
body_by b i (refused_by n) = field_refused n
body_by b i (row r) = field_or9 (revision_in b) b (pick r.body i)

unfoldable pub body_field : Table → List ℕ → ℕ → FieldSaid
body_field tab b i = body_by b i (seen tab b)

-- C13: the bytes of a sub-block, by where it stands (T18, T21)
unfoldable pub sub_slice : List ℕ → Span → List ℕ
sub_slice b s = take s.size (drop s.at b)

-- C13: Sub, with the numbers k and j, by the first level's rows or the only ones
abbrev pub sub_by : List ℕ → ℕ → ℕ → Seen → FieldSaid
sub_by b k j (refused_by n) = field_refused n
sub_by b k j (row r) = field_or9 (revision_in b) (sub_slice b (sub_span r b k)) (pick (first_rows r) j)

unfoldable pub sub_field : Table → List ℕ → ℕ → ℕ → FieldSaid
sub_field tab b k j = sub_by b k j (seen_sub tab b k)

-- C13: Subbytes; R22: refused, it gives an empty part
abbrev pub part_by : List ℕ → ℕ → Seen → List ℕ
part_by b k (refused_by n) = []
part_by b k (row r) = sub_slice b (sub_span r b k)

unfoldable pub sub_block : Table → List ℕ → ℕ → List ℕ
sub_block tab b k = part_by b k (seen_sub tab b k)

-- R22: where that part stands in the block; the empty one at its start
abbrev pub nowhere : Span
nowhere = record { at = 0; size = 0 }

abbrev pub place_by : List ℕ → ℕ → Seen → Span
place_by b k (refused_by n) = nowhere
place_by b k (row r) = sub_span r b k

unfoldable pub sub_place : Table → List ℕ → ℕ → Span
sub_place tab b k = place_by b k (seen_sub tab b k)

-- R22: what the twin call tells
abbrev pub number_by : Seen → Option ℕ
number_by (refused_by n) = Some n
number_by (row r) = None

unfoldable pub sub_block_refusal : Table → List ℕ → ℕ → Option ℕ
sub_block_refusal tab b k = number_by (seen_sub tab b k)

-- V8: the rows of TOW and WNc, of every block
abbrev pub tow_row : FieldRow
tow_row = record { offset = 8; kind = u4; first = 0; mark = ones }

abbrev pub wnc_row : FieldRow
wnc_row = record { offset = 12; kind = u2; first = 0; mark = ones }

-- V8: what Tow and Wnc answer; R20: 10, then 7
unfoldable pub stamp : FieldRow → List ℕ → FieldSaid
stamp f b = cond (whole_frame b) (cond (leb 14 (length_in b)) (field_value b f) (field_refused 7)) (field_refused 10)
