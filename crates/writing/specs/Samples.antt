-- Blocks that are written, each with all its bytes (rules W6 to W9), and drafts that their row does not write (R6).
-- Assumes nothing.
use Rattle.std.specs.Prelude.{ℕ, ◌+◌, List, [], ◌∷◌, ◌++◌, map, ◌≡◌, negsuc, replicate, None, Some}
use Rattle.kinds.specs.Types.{u1, u2, u4, i1, i2, i4, i8, f4, f8}
use Rattle.kinds.specs.Marks.{unmarked, ones, zeroes, minus2e10, least, seed}
use Rattle.rows.specs.declared.FieldRow.{FieldRow}
use Rattle.rows.specs.Places.{field_row}
use Rattle.table.specs.Rows.{BlockRow}
use Rattle.value.specs.Said.{unsigned, signed, single}
use Rattle.entry.specs.Wanted.{Wanted}
use Rattle.draft.specs.Draft.{Draft}
use Rattle.frame.specs.Frame.{greatest_ceiling}
use Rattle.writer.specs.Write.{WriteSaid, wrote, write_refused, WriteOutcome, write_outcome, written_of}

-- ---- rows

abbrev block_row : ℕ → ℕ → List FieldRow → List FieldRow → BlockRow
block_row number highest body subs = record { number = number; highest = highest; body = body; subs = subs; firsts = 0 }

abbrev bare_row : BlockRow
bare_row = block_row 5 0 [] []

-- 5 bytes between the first two fields
abbrev gap_row : BlockRow
gap_row = block_row 4007 0 (field_row 14 u1 0 unmarked ∷ field_row 20 u4 0 unmarked ∷ field_row 24 i2 0 unmarked ∷ []) []

-- every mark
abbrev marked_row : BlockRow
marked_row =
    block_row 64 0
    (field_row 14 u2 0 ones
    ∷ field_row 16 u4 0 zeroes
    ∷ field_row 20 f4 0 minus2e10
    ∷ field_row 24 f8 0 minus2e10
    ∷ field_row 32 i1 0 least
    ∷ field_row 34 i2 0 least
    ∷ field_row 36 i4 0 least
    ∷ field_row 40 i8 0 least
    ∷ field_row 48 u2 0 seed
    ∷ [])
    []

-- PPPInfo's mark alone
abbrev seed_row : BlockRow
seed_row = block_row 7 0 (field_row 14 u2 0 seed ∷ []) []

-- the last field from revision 2 on
abbrev growing_row : BlockRow
growing_row = block_row 1 2 (field_row 14 u2 0 ones ∷ field_row 16 f4 0 minus2e10 ∷ field_row 20 i8 2 least ∷ []) []

-- sub-fields from revision 1 on, with 3 bytes between them
abbrev parted_row : BlockRow
parted_row =
    block_row 2 3 (field_row 14 u1 0 unmarked ∷ field_row 15 u1 0 unmarked ∷ []) (field_row 0 u1 1 unmarked ∷ field_row 4 u1 1 unmarked ∷ [])

-- of two levels: N1, SB1Length and SB2Length; N2 alone in the first level, and a byte in the second
abbrev nesting_row : BlockRow
nesting_row =
    record {
      number = 3;
      highest = 0;
      body = field_row 14 u1 0 unmarked ∷ field_row 15 u1 0 unmarked ∷ field_row 16 u1 0 unmarked ∷ [];
      subs = field_row 0 u1 0 unmarked ∷ field_row 0 u1 0 unmarked ∷ [];
      firsts = 1;
    }

-- ---- drafts of the revision, over a row's number

abbrev stamped_by : BlockRow → ℕ → Wanted → Wanted → List Wanted → List (List Wanted) → Draft
stamped_by r revision tow wnc body subs =
    record { number = r.number; revision = revision; tow = tow; wnc = wnc; body = body; subs = subs }

-- TOW 1, WNc 2
abbrev one_two : BlockRow → ℕ → List Wanted → List (List Wanted) → Draft
one_two r revision body subs = stamped_by r revision (Some (unsigned 1)) (Some (unsigned 2)) body subs

abbrev byte_pair : ℕ → ℕ → List Wanted
byte_pair x y = Some (unsigned x) ∷ Some (unsigned y) ∷ []

-- ---- cases

pub record BlockCase : Type 0 where
  pub row : BlockRow
  pub draft : Draft
  pub size : ℕ
  pub said : WriteSaid
  pub bytes : List ℕ

abbrev block_case : BlockRow → Draft → ℕ → List ℕ → BlockCase
block_case r d n b = record { row = r; draft = d; size = n; said = wrote n; bytes = b }

-- R6: refused, with so many bytes that stay as they are
abbrev unwritten : BlockRow → Draft → ℕ → BlockCase
unwritten r d n = record { row = r; draft = d; size = n; said = write_refused 6; bytes = replicate n 0xEE }

abbrev pub block_cases : List BlockCase
block_cases =
    -- without fields: two bytes of padding
    block_case bare_row (stamped_by bare_row 0 (Some (unsigned 0x01020304)) (Some (unsigned 0x0506)) [] []) 16
    (0x24 ∷ 0x40 ∷ 0xA0 ∷ 0xA0 ∷ 0x05 ∷ 0x00 ∷ 0x10 ∷ 0x00 ∷ 0x04 ∷ 0x03 ∷ 0x02 ∷ 0x01 ∷ 0x06 ∷ 0x05 ∷ 0x00 ∷ 0x00 ∷ [])
    -- a gap, a number below zero (-2) and padding
    ∷ block_case gap_row
    (stamped_by gap_row 0 (Some (unsigned 123456)) (Some (unsigned 2200)) (Some (unsigned 0xAB) ∷ Some (unsigned 0x11223344) ∷ Some (signed (negsuc 1)) ∷ []) [])
    28
    (0x24 ∷ 0x40 ∷ 0xF9 ∷ 0xA9 ∷ 0xA7 ∷ 0x0F ∷ 0x1C ∷ 0x00 ∷ 0x40 ∷ 0xE2 ∷ 0x01 ∷ 0x00 ∷ 0x98 ∷ 0x08 ∷ 0xAB ∷ 0x00
    ∷ 0x00 ∷ 0x00 ∷ 0x00 ∷ 0x00 ∷ 0x44 ∷ 0x33 ∷ 0x22 ∷ 0x11 ∷ 0xFE ∷ 0xFF ∷ 0x00 ∷ 0x00 ∷ [])
    -- unset, by each mark; the list is shorter than the rows
    ∷ block_case marked_row (stamped_by marked_row 0 None None (None ∷ None ∷ []) []) 52
    (0x24 ∷ 0x40 ∷ 0xE7 ∷ 0x3C ∷ 0x40 ∷ 0x00 ∷ 0x34 ∷ 0x00 ∷ 0xFF ∷ 0xFF ∷ 0xFF ∷ 0xFF ∷ 0xFF ∷ 0xFF ∷ 0xFF ∷ 0xFF
    ∷ 0x00 ∷ 0x00 ∷ 0x00 ∷ 0x00 ∷ 0xF9 ∷ 0x02 ∷ 0x95 ∷ 0xD0 ∷ 0x00 ∷ 0x00 ∷ 0x00 ∷ 0x20 ∷ 0x5F ∷ 0xA0 ∷ 0x12 ∷ 0xC2
    ∷ 0x80 ∷ 0x00 ∷ 0x00 ∷ 0x80 ∷ 0x00 ∷ 0x00 ∷ 0x00 ∷ 0x80 ∷ 0x00 ∷ 0x00 ∷ 0x00 ∷ 0x00 ∷ 0x00 ∷ 0x00 ∷ 0x00 ∷ 0x80
    ∷ 0x00 ∷ 0x00 ∷ 0x00 ∷ 0x00 ∷ [])
    -- the lowest number with a seed
    ∷ block_case seed_row (one_two seed_row 0 (Some (unsigned 0x2000) ∷ []) []) 16
    (0x24 ∷ 0x40 ∷ 0x04 ∷ 0x12 ∷ 0x07 ∷ 0x00 ∷ 0x10 ∷ 0x00 ∷ 0x01 ∷ 0x00 ∷ 0x00 ∷ 0x00 ∷ 0x02 ∷ 0x00 ∷ 0x00 ∷ 0x20 ∷ [])
    -- revision 1 lacks the last field, which revision 2 carries (-3)
    ∷ block_case growing_row (one_two growing_row 1 (Some (unsigned 0x1234) ∷ Some (single 0x3FC00000) ∷ []) []) 20
    (0x24 ∷ 0x40 ∷ 0xAD ∷ 0x3A ∷ 0x01 ∷ 0x20 ∷ 0x14 ∷ 0x00 ∷ 0x01 ∷ 0x00 ∷ 0x00 ∷ 0x00 ∷ 0x02 ∷ 0x00 ∷ 0x34 ∷ 0x12
    ∷ 0x00 ∷ 0x00 ∷ 0xC0 ∷ 0x3F ∷ [])
    ∷ block_case growing_row (one_two growing_row 2 (Some (unsigned 0x1234) ∷ Some (single 0x3FC00000) ∷ Some (signed (negsuc 2)) ∷ []) []) 28
    (0x24 ∷ 0x40 ∷ 0x75 ∷ 0x2E ∷ 0x01 ∷ 0x40 ∷ 0x1C ∷ 0x00 ∷ 0x01 ∷ 0x00 ∷ 0x00 ∷ 0x00 ∷ 0x02 ∷ 0x00 ∷ 0x34 ∷ 0x12
    ∷ 0x00 ∷ 0x00 ∷ 0xC0 ∷ 0x3F ∷ 0xFD ∷ 0xFF ∷ 0xFF ∷ 0xFF ∷ 0xFF ∷ 0xFF ∷ 0xFF ∷ 0xFF ∷ [])
    -- two sub-blocks of 5 bytes; the body's list is longer than its rows, and unset
    ∷ block_case parted_row (one_two parted_row 3 (None ∷ None ∷ None ∷ []) (byte_pair 0x11 0x12 ∷ byte_pair 0x21 0x22 ∷ [])) 28
    (0x24 ∷ 0x40 ∷ 0x46 ∷ 0xF0 ∷ 0x02 ∷ 0x60 ∷ 0x1C ∷ 0x00 ∷ 0x01 ∷ 0x00 ∷ 0x00 ∷ 0x00 ∷ 0x02 ∷ 0x00 ∷ 0x02 ∷ 0x05
    ∷ 0x11 ∷ 0x00 ∷ 0x00 ∷ 0x00 ∷ 0x12 ∷ 0x21 ∷ 0x00 ∷ 0x00 ∷ 0x00 ∷ 0x22 ∷ 0x00 ∷ 0x00 ∷ [])
    -- no sub-blocks: SBLength is 0
    ∷ block_case parted_row (one_two parted_row 3 [] []) 16
    (0x24 ∷ 0x40 ∷ 0x68 ∷ 0xD6 ∷ 0x02 ∷ 0x60 ∷ 0x10 ∷ 0x00 ∷ 0x01 ∷ 0x00 ∷ 0x00 ∷ 0x00 ∷ 0x02 ∷ 0x00 ∷ 0x00 ∷ 0x00 ∷ [])
    -- revision 0 carries no sub-field: N is 3 and SBLength 0
    ∷ block_case parted_row (one_two parted_row 0 [] ([] ∷ (None ∷ []) ∷ [] ∷ [])) 16
    (0x24 ∷ 0x40 ∷ 0x94 ∷ 0x6D ∷ 0x02 ∷ 0x00 ∷ 0x10 ∷ 0x00 ∷ 0x01 ∷ 0x00 ∷ 0x00 ∷ 0x00 ∷ 0x02 ∷ 0x00 ∷ 0x03 ∷ 0x00 ∷ [])
    -- a row of two levels, without sub-blocks and with one
    ∷ unwritten nesting_row (one_two nesting_row 0 [] []) 20
    ∷ unwritten nesting_row (one_two nesting_row 0 [] (byte_pair 1 2 ∷ [])) 24
    ∷ []

-- W1: by a table of this row, into a buffer of two bytes more, which stay as they are
abbrev pub block_written : BlockCase → WriteOutcome
block_written c = written_of greatest_ceiling (record { version = 1; rows = c.row ∷ [] }) c.draft (replicate (c.size + 2) 0xEE)

abbrev pub block_expected : BlockCase → WriteOutcome
block_expected c = write_outcome c.said (c.bytes ++ 0xEE ∷ 0xEE ∷ [])

abbrev pub BlocksHold : Type 0
BlocksHold = map block_written block_cases ≡ map block_expected block_cases

-- R12, C17: the block with a gap, of 28 bytes, under ceilings
abbrev pub gap_written : ℕ → WriteSaid
gap_written top =
    (written_of top (record { version = 1; rows = gap_row ∷ [] })
    (stamped_by gap_row 0 (Some (unsigned 123456)) (Some (unsigned 2200)) (Some (unsigned 0xAB) ∷ Some (unsigned 0x11223344) ∷ Some (signed (negsuc 1)) ∷ []) [])
    (replicate 30 0xEE)).said

abbrev pub CeilingsHold : Type 0
CeilingsHold = map gap_written (24 ∷ 28 ∷ 32 ∷ []) ≡ write_refused 12 ∷ wrote 28 ∷ wrote 28 ∷ []
