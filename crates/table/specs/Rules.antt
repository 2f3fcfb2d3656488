-- The rules of a table, T1 to T17, T19 and T20, each by itself: on its form, `form_ok`, on its meaning, `meaning_ok`, and all, `table_ok`.
-- Assumes nothing.
use Rattle.std.specs.Prelude.{Bool, true, false, ◌&&◌, ◌||◌, cond, List, [], ◌∷◌, ℕ, ◌+◌, ◌-◌, ◌*◌, ltb, leb, eqb, length, get_or, Option, None, Some}
use Rattle.crc.specs.Crc.{crc_of}
use Rattle.kinds.specs.Types.{u1, listed}
use Rattle.kinds.specs.Marks.{unmarked, mark_fits}
use Rattle.rows.specs.declared.FieldRow.{FieldRow}
use Rattle.rows.specs.declared.Row.{Row}
use Rattle.table.specs.Lists.{every, neighbours}
use Rattle.table.specs.Rows.{BlockRow, Table, ends, one_level, first_rows, second_rows, nested_row}
use Rattle.rows.specs.Places.{block_count, field_count}
use Rattle.table.specs.Decode.{to_blocks, to_fields, crc_field, covered, rows_of, decode}

-- The form. File and trailer.

-- T1: how many bytes
abbrev pub size_ok : List ℕ → Bool
size_ok t = leb 20 (length t) && leb (length t) 8192

-- T1: nothing between the parts and nothing left over
abbrev pub parts_ok : List ℕ → Bool
parts_ok t = eqb (4 * field_count t + (12 + 8 * block_count t)) (length t)

-- T3: R is 1 or more
abbrev pub count_ok : List ℕ → Bool
count_ok t = leb 1 (block_count t)

-- T4: the first distance
abbrev pub to_blocks_ok : List ℕ → Bool
to_blocks_ok t = eqb (to_blocks t) (12 + 8 * block_count t)

-- T4: the second
abbrev pub to_fields_ok : List ℕ → Bool
to_fields_ok t = eqb (to_fields t) (length t)

-- T5: the CRC is right
abbrev pub crc_ok : List ℕ → Bool
crc_ok t = eqb (crc_field t) (crc_of (covered t))

-- T6: the closing bytes
abbrev pub closing_ok : List ℕ → Bool
closing_ok t = eqb (get_or t (length t - 2) 0) 0x42 && eqb (get_or t (length t - 1) 0) 0x54

-- T1, T3 to T6
unfoldable pub file_ok : List ℕ → Bool
file_ok t = size_ok t && parts_ok t && count_ok t && to_blocks_ok t && to_fields_ok t && crc_ok t && closing_ok t

-- Block rows, as they stand.

-- T10: an index is the number of field rows claimed before it, `before` at the first of these rows
unfoldable pub index_ok : ℕ → List Row → Bool
index_ok before [] = true
index_ok before (r ∷ rs) = eqb r.start before && index_ok (before + (r.bodies + r.subs)) rs

-- T10: the field rows that these rows claim
unfoldable pub used_fields : List Row → ℕ
used_fields [] = 0
used_fields (r ∷ rs) = r.bodies + r.subs + used_fields rs

-- T10: they claim all field rows
abbrev pub used_ok : ℕ → List Row → Bool
used_ok fields rs = eqb (used_fields rs) fields

-- T1, T3 to T6, T10
unfoldable pub form_ok : List ℕ → Bool
form_ok t = file_ok t && index_ok 0 (rows_of t) && used_ok (field_count t) (rows_of t)

-- The meaning: nothing in `meaning_ok` knows of bytes. Block rows.

-- T8: below 8,192
abbrev pub number_ok : BlockRow → Bool
number_ok b = leb b.number 8191

-- T8: rising
unfoldable pub rising_ok : List BlockRow → Bool
rising_ok bs = neighbours (λ (b c : BlockRow). ltb b.number c.number) bs

-- T9: the highest revision
abbrev pub highest_ok : BlockRow → Bool
highest_ok b = leb b.highest 7

-- Field rows, block by block.

-- T12: a body's offsets
abbrev pub offset_ok : FieldRow → Bool
offset_ok f = leb 14 f.offset

-- T13: of a row and the next
abbrev pub apart : FieldRow → FieldRow → Bool
apart f g = leb (ends f) g.offset

-- T14: of a row and the next
abbrev pub steady : FieldRow → FieldRow → Bool
steady f g = leb f.first g.first

-- T14: not above the block's highest
abbrev pub first_ok : ℕ → FieldRow → Bool
first_ok highest f = leb f.first highest

-- T16, T20: a count or a length in one byte
abbrev pub is_count : ℕ → FieldRow → Bool
is_count at f = eqb f.offset at && eqb f.kind u1 && eqb f.first 0 && eqb f.mark unmarked

-- T16: the body is these two
unfoldable pub is_pair : List FieldRow → Bool
is_pair [] = false
is_pair (n ∷ []) = false
is_pair (n ∷ s ∷ []) = is_count 14 n && is_count 15 s
is_pair (n ∷ s ∷ f ∷ fs) = false

-- T16: of one level, only a block with sub-fields has to have that body
abbrev pub pair_ok : BlockRow → Bool
pair_ok b = eqb (length b.subs) 0 || is_pair b.body

-- T19: the first level's rows are there
abbrev pub levels_ok : BlockRow → Bool
levels_ok b = leb b.firsts (length b.subs)

-- T20: N2, at whatever offset
abbrev pub is_nested : Option FieldRow → Bool
is_nested None = false
is_nested (Some f) = is_count f.offset f

-- T20: the body begins with N1, SB1Length and SB2Length
unfoldable pub is_triple : List FieldRow → Bool
is_triple [] = false
is_triple (n ∷ []) = false
is_triple (n ∷ s ∷ []) = false
is_triple (n ∷ s ∷ z ∷ fs) = is_count 14 n && is_count 15 s && is_count 16 z

-- T20: before the sub-blocks
abbrev pub early : FieldRow → Bool
early f = leb (ends f) 20

-- T19, T20: of two levels
unfoldable pub nest_ok : BlockRow → Bool
nest_ok b = levels_ok b && is_nested (nested_row b) && is_triple b.body && every early b.body

-- T16, T19, T20: of one level, and of two
unfoldable pub shape_ok : BlockRow → Bool
shape_ok b = cond (one_level b) (pair_ok b) (nest_ok b)

-- T15: the type
abbrev pub type_ok : FieldRow → Bool
type_ok f = listed f.kind

-- T15: the mark, and that it fits the type
abbrev pub mark_ok : FieldRow → Bool
mark_ok f = mark_fits f.kind f.mark

-- T13 to T15, of a body as of the sub-fields of a level
unfoldable pub fields_ok : ℕ → List FieldRow → Bool
fields_ok highest fs = neighbours apart fs && neighbours steady fs && every (first_ok highest) fs && every type_ok fs && every mark_ok fs

-- T12 to T16, T19, T20
unfoldable pub block_ok : BlockRow → Bool
block_ok b =
    every offset_ok b.body && fields_ok b.highest b.body && fields_ok b.highest (first_rows b) && fields_ok b.highest (second_rows b) && shape_ok b

-- T8, T9, T12 to T16, T19, T20
unfoldable pub meaning_ok : Table → Bool
meaning_ok tab = every number_ok tab.rows && rising_ok tab.rows && every highest_ok tab.rows && every block_ok tab.rows

-- All of them. T2, T7, T11 and T17 say where things stand and what they are: `decode` has them
unfoldable pub table_ok : List ℕ → Bool
table_ok t = form_ok t && meaning_ok (decode t)
