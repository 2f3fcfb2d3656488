-- The samples of records, S4, S8 to S10 and the values of S13, and the limits of the rules, as one table of cases.
-- Assumes nothing.
use Rattle.std.specs.Prelude.{ℕ, ◌≡◌, List, [], ◌∷◌, map, pos, negsuc, Option, None, Some}
use Rattle.wire.specs.Little.{little_at}
use Rattle.frame.specs.Frame.{number_of, revision_of}
use Rattle.kinds.specs.Types.{u1, u2, u4, u8, i1, i2, i4, i8, f4, f8}
use Rattle.kinds.specs.Marks.{unmarked, ones, zeroes, minus2e10, least, seed}
use Rattle.rows.specs.declared.FieldRow.{FieldRow}
use Rattle.table.specs.Rows.{Table}
use Rattle.value.specs.Said.{FieldSaid, unsigned, signed, single, double, do_not_use, not_in_revision, field_refused}
use Rattle.value.specs.Bits.{field_value}
use Rattle.record.specs.Calls.{body_field, sub_field, sub_block, sub_block_refusal, tow_row, wnc_row, stamp}
use Rattle.rows.specs.Places.{field_row}

-- what a case speaks of: an ID's number and revision, what a field says, a part and the number of its twin
pub data Subject : Type 0 where
  id : ℕ → ℕ → Subject
  says : FieldSaid → Subject
  part_said : List ℕ → Option ℕ → Subject

pub record RecordCase : Type 0 where
  pub given : Subject
  pub expected : Subject

abbrev case : Subject → Subject → RecordCase
case given expected = record { given = given; expected = expected }

abbrev count_rows : List FieldRow
count_rows = field_row 14 u1 0 unmarked ∷ field_row 15 u1 0 unmarked ∷ []

-- S2's block of 8 bytes
abbrev pub sample_b : List ℕ
sample_b = 0x24 ∷ 0x40 ∷ 0xA9 ∷ 0x89 ∷ 0x00 ∷ 0x00 ∷ 0x08 ∷ 0x00 ∷ []

-- number 0 without fields; number 1 with u2, i2, f4 and from revision 1 a u1; numbers 2 and 3 with sub-fields
abbrev pub sample_table : Table
sample_table =
    record {
      version = 1;
      rows =
          record { number = 0; highest = 0; body = []; subs = []; firsts = 0 }
          ∷ record { number = 1; highest = 1; body = field_row 14 u2 0 ones ∷ field_row 16 i2 0 least ∷ field_row 20 f4 0 minus2e10 ∷ field_row 24 u1 1 unmarked ∷ []; subs = []; firsts = 0 }
          ∷ record { number = 2; highest = 1; body = count_rows; subs = field_row 0 u2 0 unmarked ∷ field_row 2 i1 1 least ∷ []; firsts = 0 }
          ∷ record { number = 3; highest = 1; body = count_rows; subs = field_row 0 u1 1 unmarked ∷ []; firsts = 0 }
          ∷ [];
    }

-- number 1, revision 0, L = 24
abbrev pub old : List ℕ
old =
    0x24 ∷ 0x40 ∷ 0xE9 ∷ 0x3C ∷ 0x01 ∷ 0x00 ∷ 0x18 ∷ 0x00 ∷ 0xFF ∷ 0xFF ∷ 0xFF ∷ 0xFF ∷ 0x02 ∷ 0x01 ∷ 0xFE ∷ 0xFF ∷ 0xFE ∷ 0xFF ∷ 0x00 ∷ 0x00 ∷ 0x01 ∷ 0x00 ∷ 0xC0 ∷ 0x7F ∷ []

-- the same fields of revision 1, whose last would end at 25; TOW and WNc are 0
abbrev pub cut_short : List ℕ
cut_short =
    0x24 ∷ 0x40 ∷ 0x90 ∷ 0x41 ∷ 0x01 ∷ 0x20 ∷ 0x18 ∷ 0x00 ∷ 0x00 ∷ 0x00 ∷ 0x00 ∷ 0x00 ∷ 0x00 ∷ 0x00 ∷ 0xFE ∷ 0xFF ∷ 0xFE ∷ 0xFF ∷ 0x00 ∷ 0x00 ∷ 0x01 ∷ 0x00 ∷ 0xC0 ∷ 0x7F ∷ []

-- revision 5, newer than the row, L = 28
abbrev pub newer : List ℕ
newer =
    0x24 ∷ 0x40 ∷ 0x47 ∷ 0xF7 ∷ 0x01 ∷ 0xA0 ∷ 0x1C ∷ 0x00 ∷ 0x00 ∷ 0x00 ∷ 0x00 ∷ 0x00 ∷ 0xFF ∷ 0xFF ∷ 0xFF ∷ 0xFF ∷ 0x00 ∷ 0x80 ∷ 0x00 ∷ 0x00 ∷ 0xF9 ∷ 0x02 ∷ 0x95 ∷ 0xD0 ∷ 0x09 ∷ 0x00 ∷ 0x00 ∷ 0x00 ∷ []

-- number 9, which has no row
abbrev pub rowless : List ℕ
rowless =
    0x24 ∷ 0x40 ∷ 0x4B ∷ 0x8C ∷ 0x09 ∷ 0x00 ∷ 0x10 ∷ 0x00 ∷ 0x00 ∷ 0x00 ∷ 0x00 ∷ 0x00 ∷ 0x00 ∷ 0x00 ∷ 0x00 ∷ 0x00 ∷ []

-- number 2, revision 0: two sub-blocks of 4 bytes, L = 24
abbrev pub two_subs : List ℕ
two_subs =
    0x24 ∷ 0x40 ∷ 0x18 ∷ 0x46 ∷ 0x02 ∷ 0x00 ∷ 0x18 ∷ 0x00 ∷ 0x00 ∷ 0x00 ∷ 0x00 ∷ 0x00 ∷ 0x00 ∷ 0x00 ∷ 0x02 ∷ 0x04 ∷ 0x11 ∷ 0x22 ∷ 0x33 ∷ 0x44 ∷ 0x55 ∷ 0x66 ∷ 0x77 ∷ 0x88 ∷ []

-- revision 1: sub-blocks of 2 bytes, where a carried sub-field ends at 3
abbrev pub narrow : List ℕ
narrow =
    0x24 ∷ 0x40 ∷ 0xDF ∷ 0xF4 ∷ 0x02 ∷ 0x20 ∷ 0x14 ∷ 0x00 ∷ 0x00 ∷ 0x00 ∷ 0x00 ∷ 0x00 ∷ 0x00 ∷ 0x00 ∷ 0x02 ∷ 0x02 ∷ 0x11 ∷ 0x22 ∷ 0x33 ∷ 0x44 ∷ []

-- three sub-blocks of 4 bytes end past L = 24
abbrev pub overlong : List ℕ
overlong =
    0x24 ∷ 0x40 ∷ 0x5D ∷ 0x29 ∷ 0x02 ∷ 0x00 ∷ 0x18 ∷ 0x00 ∷ 0x00 ∷ 0x00 ∷ 0x00 ∷ 0x00 ∷ 0x00 ∷ 0x00 ∷ 0x03 ∷ 0x04 ∷ 0x11 ∷ 0x22 ∷ 0x33 ∷ 0x44 ∷ 0x55 ∷ 0x66 ∷ 0x77 ∷ 0x88 ∷ []

-- N zero, SBLength 255, L = 16
abbrev pub nosubs : List ℕ
nosubs =
    0x24 ∷ 0x40 ∷ 0x8C ∷ 0x8C ∷ 0x02 ∷ 0x00 ∷ 0x10 ∷ 0x00 ∷ 0x00 ∷ 0x00 ∷ 0x00 ∷ 0x00 ∷ 0x00 ∷ 0x00 ∷ 0x00 ∷ 0xFF ∷ []

-- N zero, where the carried sub-field would end past an SBLength of 0, and past one of 1
abbrev pub none_of_zero : List ℕ
none_of_zero =
    0x24 ∷ 0x40 ∷ 0x7C ∷ 0x92 ∷ 0x02 ∷ 0x00 ∷ 0x10 ∷ 0x00 ∷ 0x00 ∷ 0x00 ∷ 0x00 ∷ 0x00 ∷ 0x00 ∷ 0x00 ∷ 0x00 ∷ 0x00 ∷ []

abbrev pub none_of_one : List ℕ
none_of_one =
    0x24 ∷ 0x40 ∷ 0x5D ∷ 0x82 ∷ 0x02 ∷ 0x00 ∷ 0x10 ∷ 0x00 ∷ 0x00 ∷ 0x00 ∷ 0x00 ∷ 0x00 ∷ 0x00 ∷ 0x00 ∷ 0x00 ∷ 0x01 ∷ []

-- L = 12 ends before N and SBLength, and before 16, where sub-blocks begin: both 7 and 8 hold
abbrev pub countless : List ℕ
countless = 0x24 ∷ 0x40 ∷ 0x45 ∷ 0x84 ∷ 0x02 ∷ 0x00 ∷ 0x0C ∷ 0x00 ∷ 0x00 ∷ 0x00 ∷ 0x00 ∷ 0x00 ∷ []

-- N 5, SBLength 0, with a carried sub-field
abbrev pub flat : List ℕ
flat =
    0x24 ∷ 0x40 ∷ 0x89 ∷ 0x6D ∷ 0x02 ∷ 0x00 ∷ 0x10 ∷ 0x00 ∷ 0x00 ∷ 0x00 ∷ 0x00 ∷ 0x00 ∷ 0x00 ∷ 0x00 ∷ 0x05 ∷ 0x00 ∷ []

-- the same by a row whose sub-field is not carried
abbrev pub hollow : List ℕ
hollow =
    0x24 ∷ 0x40 ∷ 0xFC ∷ 0x6E ∷ 0x03 ∷ 0x00 ∷ 0x10 ∷ 0x00 ∷ 0x00 ∷ 0x00 ∷ 0x00 ∷ 0x00 ∷ 0x00 ∷ 0x00 ∷ 0x05 ∷ 0x00 ∷ []

-- number 0, L = 12
abbrev pub twelve : List ℕ
twelve =
    0x24 ∷ 0x40 ∷ 0xE3 ∷ 0x0B ∷ 0x00 ∷ 0x00 ∷ 0x0C ∷ 0x00 ∷ 0x00 ∷ 0x00 ∷ 0x00 ∷ 0x00 ∷ []

abbrev of_id : List ℕ → Subject
of_id s = id (number_of (little_at 2 s 0)) (revision_of (little_at 2 s 0))

abbrev of_value : List ℕ → ℕ → ℕ → Subject
of_value s kind mark = says (field_value s (field_row 0 kind 0 mark))

abbrev of_body : List ℕ → ℕ → Subject
of_body b i = says (body_field sample_table b i)

abbrev of_sub : List ℕ → ℕ → ℕ → Subject
of_sub b k j = says (sub_field sample_table b k j)

abbrev of_bytes : List ℕ → ℕ → Subject
of_bytes b k = part_said (sub_block sample_table b k) (sub_block_refusal sample_table b k)

abbrev pub record_cases : List RecordCase
record_cases =
    -- S4
    case (of_id (0x37 ∷ 0x17 ∷ [])) (id 5943 0)
    ∷ case (of_id (0x37 ∷ 0x37 ∷ [])) (id 5943 1)
    ∷ case (of_id (0xFF ∷ 0xFF ∷ [])) (id 8191 7)
    -- S8
    ∷ case (of_value (0xF9 ∷ 0x02 ∷ 0x95 ∷ 0xD0 ∷ []) f4 minus2e10) (says do_not_use)
    ∷ case (of_value (0xF8 ∷ 0x02 ∷ 0x95 ∷ 0xD0 ∷ []) f4 minus2e10) (says (single 0xD09502F8))
    -- S9
    ∷ case (of_value (0xFF ∷ 0xFF ∷ []) u2 ones) (says do_not_use)
    ∷ case (of_value (0xFE ∷ 0xFF ∷ []) u2 ones) (says (unsigned 65534))
    -- S13: an age without a seed, the last number without one, the first with one
    ∷ case (of_value (0xFF ∷ 0x0F ∷ []) u2 seed) (says do_not_use)
    ∷ case (of_value (0xFF ∷ 0x1F ∷ []) u2 seed) (says do_not_use)
    ∷ case (of_value (0x00 ∷ 0x20 ∷ []) u2 seed) (says (unsigned 0x2000))
    -- S10
    ∷ case (of_body sample_b 0) (says (field_refused 7))
    -- R7: the same of 12 bytes, to Tow and Wnc too
    ∷ case (of_body twelve 0) (says (field_refused 7))
    ∷ case (says (stamp tow_row twelve)) (says (field_refused 7))
    ∷ case (says (stamp wnc_row twelve)) (says (field_refused 7))
    -- V1, V3: a sign at each width, and mark 4
    ∷ case (of_value (0xFF ∷ []) i1 unmarked) (says (signed (negsuc 0)))
    ∷ case (of_value (0xFF ∷ 0x7F ∷ []) i2 least) (says (signed (pos 32767)))
    ∷ case (of_value (0x00 ∷ 0x80 ∷ []) i2 least) (says do_not_use)
    ∷ case (of_value (0x00 ∷ 0x80 ∷ []) i2 unmarked) (says (signed (negsuc 32767)))
    ∷ case (of_value (0x00 ∷ 0x00 ∷ 0x00 ∷ 0x80 ∷ []) i4 unmarked) (says (signed (negsuc 2147483647)))
    ∷ case (of_value (0xFE ∷ 0xFF ∷ 0xFF ∷ 0xFF ∷ 0xFF ∷ 0xFF ∷ 0xFF ∷ 0xFF ∷ []) i8 least) (says (signed (negsuc 1)))
    -- V3: f8 with mark 3, and marks 1 and 2 in u8 and u4
    ∷ case (of_value (0x00 ∷ 0x00 ∷ 0x00 ∷ 0x20 ∷ 0x5F ∷ 0xA0 ∷ 0x12 ∷ 0xC2 ∷ []) f8 minus2e10) (says do_not_use)
    ∷ case (of_value (0x01 ∷ 0x00 ∷ 0x00 ∷ 0x20 ∷ 0x5F ∷ 0xA0 ∷ 0x12 ∷ 0xC2 ∷ []) f8 minus2e10) (says (double 0xC212A05F20000001))
    ∷ case (of_value (0xFF ∷ 0xFF ∷ 0xFF ∷ 0xFF ∷ 0xFF ∷ 0xFF ∷ 0xFF ∷ 0xFF ∷ []) u8 ones) (says do_not_use)
    ∷ case (of_value (0x00 ∷ 0x00 ∷ 0x00 ∷ 0x00 ∷ []) u4 zeroes) (says do_not_use)
    ∷ case (of_value (0x00 ∷ 0x00 ∷ 0x00 ∷ 0x00 ∷ []) u4 ones) (says (unsigned 0))
    -- C13, V2, V7, R9, V8: body fields, a NaN's bits, not in this revision, no such field, TOW and WNc
    ∷ case (of_body old 0) (says (unsigned 65534))
    ∷ case (of_body old 1) (says (signed (negsuc 1)))
    ∷ case (of_body old 2) (says (single 0x7FC00001))
    ∷ case (of_body old 3) (says not_in_revision)
    ∷ case (of_body old 4) (says (field_refused 9))
    ∷ case (of_sub old 0 0) (says (field_refused 9))
    ∷ case (of_bytes old 0) (part_said [] (Some 9))
    ∷ case (says (stamp tow_row old)) (says do_not_use)
    ∷ case (says (stamp wnc_row old)) (says (unsigned 0x0102))
    -- R20: 7 comes before 9; V6: a revision above the row's highest
    ∷ case (of_body cut_short 0) (says (field_refused 7))
    ∷ case (of_body cut_short 4) (says (field_refused 7))
    ∷ case (of_body newer 1) (says do_not_use)
    ∷ case (of_body newer 2) (says do_not_use)
    ∷ case (of_body newer 3) (says (unsigned 9))
    ∷ case (says (stamp wnc_row newer)) (says do_not_use)
    -- R20: 6, and 10 before it
    ∷ case (of_body rowless 0) (says (field_refused 6))
    ∷ case (of_body (0x24 ∷ rowless) 0) (says (field_refused 10))
    -- T18, R8, R9: sub-blocks
    ∷ case (of_sub two_subs 1 0) (says (unsigned 0x6655))
    ∷ case (of_sub two_subs 1 1) (says not_in_revision)
    ∷ case (of_sub two_subs 1 2) (says (field_refused 9))
    ∷ case (of_sub two_subs 2 0) (says (field_refused 9))
    ∷ case (of_bytes two_subs 1) (part_said (0x55 ∷ 0x66 ∷ 0x77 ∷ 0x88 ∷ []) None)
    ∷ case (of_bytes two_subs 2) (part_said [] (Some 9))
    ∷ case (of_body two_subs 0) (says (unsigned 2))
    ∷ case (of_body narrow 0) (says (field_refused 8))
    ∷ case (of_bytes narrow 0) (part_said [] (Some 8))
    ∷ case (of_sub overlong 0 0) (says (field_refused 8))
    -- R20: 7 comes before 8
    ∷ case (of_body countless 0) (says (field_refused 7))
    ∷ case (of_sub countless 0 0) (says (field_refused 7))
    ∷ case (of_bytes countless 0) (part_said [] (Some 7))
    -- T18, R8: N zero, and SBLength zero
    ∷ case (of_body nosubs 1) (says (unsigned 255))
    ∷ case (of_sub nosubs 0 0) (says (field_refused 9))
    ∷ case (of_body none_of_zero 1) (says (unsigned 0))
    ∷ case (of_sub none_of_zero 0 0) (says (field_refused 9))
    ∷ case (of_bytes none_of_zero 0) (part_said [] (Some 9))
    ∷ case (of_body none_of_one 1) (says (unsigned 1))
    ∷ case (of_sub none_of_one 0 0) (says (field_refused 9))
    ∷ case (of_bytes none_of_one 0) (part_said [] (Some 9))
    ∷ case (of_bytes flat 0) (part_said [] (Some 8))
    ∷ case (of_bytes hollow 4) (part_said [] None)
    ∷ case (of_sub hollow 4 0) (says not_in_revision)
    ∷ case (of_bytes hollow 5) (part_said [] (Some 9))
    ∷ []

abbrev pub RecordSamplesHold : Type 0
RecordSamplesHold = map (λ (c : RecordCase). c.given) record_cases ≡ map (λ (c : RecordCase). c.expected) record_cases
