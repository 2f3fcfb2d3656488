-- What record calls answered before there were two levels (request M-102), kept to state that rows of one level answer so still; and the
-- rules of a table then. The words are those of that time, each name with Before behind it; a row's last byte is called `firsts` now.
-- Assumes nothing.
use Rattle.std.specs.Prelude.{ℕ, ◌+◌, ◌*◌, List, [], Bool, not, ◌&&◌, ◌||◌, cond, leb, eqb, Option, None, Some}
use Rattle.frame.specs.Frame.{whole_frame}
use Rattle.rows.specs.declared.Row.{Row}
use Rattle.rows.specs.Places.{field_count}
use Rattle.table.specs.Lists.{every, pick}
use Rattle.table.specs.Rows.{BlockRow, Table}
use Rattle.table.specs.Decode.{rows_of, decode}
use Rattle.table.specs.Rules.{file_ok, index_ok, used_ok, number_ok, rising_ok, highest_ok, offset_ok, fields_ok, pair_ok}
use Rattle.table.specs.Lookup.{find_row}
use Rattle.value.specs.Said.{FieldSaid, field_refused}
use Rattle.walk.specs.declared.Span.{Span}
use Rattle.block.specs.Block.{count_in, sub_length_in, number_in, revision_in, length_in, ends_by, body_fits, has_subs, Seen, refused_by, row, seen_sub_row}
use Rattle.record.specs.Calls.{field_or9, body_by, sub_slice, nowhere, number_by}

-- T18: where sub-block k of a block stands: `at`, where it starts in the block, and `size`. The row that is given changes nothing (D6)
abbrev pub sub_span_before : BlockRow → List ℕ → ℕ → Span
sub_span_before r b k = record { at = 16 + k * sub_length_in b; size = sub_length_in b }

-- R8: its condition holds where this fails; N sub-blocks end where one more would start
unfoldable pub subs_fit_before : List ℕ → BlockRow → Bool
subs_fit_before b r =
    let end = sub_span_before r b (count_in b) in
    not (has_subs r) || ((eqb (count_in b) 0 || every (ends_by (revision_in b) end.size) r.subs) && leb end.at (length_in b))

-- R20: 6, 7, 8
unfoldable pub seen_row_before : List ℕ → Option BlockRow → Seen
seen_row_before b None = refused_by 6
seen_row_before b (Some r) = cond (body_fits b r) (cond (subs_fit_before b r) (row r) (refused_by 8)) (refused_by 7)

-- R20: 10 comes first
unfoldable pub seen_before : Table → List ℕ → Seen
seen_before tab b = cond (whole_frame b) (seen_row_before b (find_row tab (number_in b))) (refused_by 10)

-- R9: no sub-block has the number
unfoldable pub seen_sub_before : Table → List ℕ → ℕ → Seen
seen_sub_before tab b k = seen_sub_row b k (seen_before tab b)

-- C13: Body, with the number i
unfoldable pub body_field_before : Table → List ℕ → ℕ → FieldSaid
body_field_before tab b i = body_by b i (seen_before tab b)

-- C13: Sub, with the numbers k and j
abbrev pub sub_by_before : List ℕ → ℕ → ℕ → Seen → FieldSaid
sub_by_before b k j (refused_by n) = field_refused n
sub_by_before b k j (row r) = field_or9 (revision_in b) (sub_slice b (sub_span_before r b k)) (pick r.subs j)

unfoldable pub sub_field_before : Table → List ℕ → ℕ → ℕ → FieldSaid
sub_field_before tab b k j = sub_by_before b k j (seen_sub_before tab b k)

-- C13: Subbytes; R22: refused, it gives an empty part
abbrev pub part_by_before : List ℕ → ℕ → Seen → List ℕ
part_by_before b k (refused_by n) = []
part_by_before b k (row r) = sub_slice b (sub_span_before r b k)

unfoldable pub sub_block_before : Table → List ℕ → ℕ → List ℕ
sub_block_before tab b k = part_by_before b k (seen_sub_before tab b k)

-- R22: where that part stands in the block; the empty one at its start
abbrev pub place_by_before : List ℕ → ℕ → Seen → Span
place_by_before b k (refused_by n) = nowhere
place_by_before b k (row r) = sub_span_before r b k

unfoldable pub sub_place_before : Table → List ℕ → ℕ → Span
sub_place_before tab b k = place_by_before b k (seen_sub_before tab b k)

-- R22: what the twin call tells
unfoldable pub sub_block_refusal_before : Table → List ℕ → ℕ → Option ℕ
sub_block_refusal_before tab b k = number_by (seen_sub_before tab b k)

-- T17: the last byte
abbrev pub zero_ok_before : Row → Bool
zero_ok_before r = eqb r.firsts 0

-- T1, T3 to T6, T10, T17
unfoldable pub form_ok_before : List ℕ → Bool
form_ok_before t = file_ok t && every zero_ok_before (rows_of t) && index_ok 0 (rows_of t) && used_ok (field_count t) (rows_of t)

-- T12 to T16
unfoldable pub block_ok_before : BlockRow → Bool
block_ok_before b = every offset_ok b.body && fields_ok b.highest b.body && fields_ok b.highest b.subs && pair_ok b

-- T8, T9, T12 to T16
unfoldable pub meaning_ok_before : Table → Bool
meaning_ok_before tab = every number_ok tab.rows && rising_ok tab.rows && every highest_ok tab.rows && every block_ok_before tab.rows

-- T1 to T17
unfoldable pub table_ok_before : List ℕ → Bool
table_ok_before t = form_ok_before t && meaning_ok_before (decode t)
