-- The table's rules, T1 to T17, T19 and T20, on both sides of their limits, but for the 8,192 bytes of a file: small tables with what is to
-- come of them, computed from the definitions.
-- Assumes nothing.
use Rattle.std.specs.Prelude.{Bool, true, false, ◌≡◌, ℕ, ◌+◌, length, set, take, drop, Option, None, Some}
use mathlib.Core.List.{List, [], ◌∷◌, ◌++◌, map, flat_map}
use Prim.Native.String.{String}
use Rattle.crc.specs.Crc.{crc_of}
use Rattle.kinds.specs.Types.{u1, u2, u4, u8, i1, i2, i4, i8, f8}
use Rattle.kinds.specs.Marks.{unmarked, ones, least, seed}
use Rattle.kinds.specs.Grid.{GridRow, marks_tried, grid}
use Rattle.rows.specs.declared.FieldRow.{FieldRow}
use Rattle.table.specs.Rows.{BlockRow, Table}
use Rattle.encode.specs.Encode.{u2_bytes, unsealed, encode}
use Rattle.table.specs.Decode.{decode}
use Rattle.table.specs.Rules.{meaning_ok, table_ok}
use Rattle.rows.specs.Places.{field_row}

pub record LimitCase : Type 0 where
  pub name : String
  pub bytes : List ℕ
  pub passes : Bool

-- of one level: number, highest revision, body, sub-fields
abbrev block_row : ℕ → ℕ → List FieldRow → List FieldRow → BlockRow
block_row number highest body subs = record { number = number; highest = highest; body = body; subs = subs; firsts = 0 }

-- T17, of two levels: how many rows the first level has, body, sub-fields
abbrev level_row : ℕ → List FieldRow → List FieldRow → BlockRow
level_row firsts body subs = record { number = 1; highest = 3; body = body; subs = subs; firsts = firsts }

abbrev table_with : List BlockRow → Table
table_with rows = record { version = 7; rows = rows }

abbrev ok : String → List BlockRow → LimitCase
ok name rows = record { name = name; bytes = encode (table_with rows); passes = true }

abbrev bad : String → List BlockRow → LimitCase
bad name rows = record { name = name; bytes = encode (table_with rows); passes = false }

-- one block with this body, and one with these sub-fields
abbrev with_body : List FieldRow → List BlockRow
with_body fs = block_row 1 3 fs [] ∷ []

abbrev with_subs : List FieldRow → List BlockRow
with_subs fs = block_row 1 3 (field_row 14 u1 0 unmarked ∷ field_row 15 u1 0 unmarked ∷ []) fs ∷ []

-- a type and a mark
abbrev bears : ℕ → ℕ → List BlockRow
bears kind mark = with_body (field_row 14 kind 0 mark ∷ [])

abbrev rows : List LimitCase
rows =
    ok "one block without fields, 20 bytes" (with_body [])
    ∷ bad "no block" []
    ∷ ok "number 8191" (block_row 8191 0 [] [] ∷ [])
    ∷ bad "number 8192" (block_row 8192 0 [] [] ∷ [])
    ∷ ok "numbers 0 and 1" (block_row 0 0 [] [] ∷ block_row 1 0 [] [] ∷ [])
    ∷ bad "a number twice" (block_row 1 0 [] [] ∷ block_row 1 0 [] [] ∷ [])
    ∷ bad "numbers falling" (block_row 2 0 [] [] ∷ block_row 1 0 [] [] ∷ [])
    ∷ ok "highest 7" (block_row 1 7 [] [] ∷ [])
    ∷ bad "highest 8" (block_row 1 8 [] [] ∷ [])
    ∷ ok "two blocks with fields" (block_row 1 0 (field_row 14 u4 0 unmarked ∷ []) [] ∷ block_row 2 0 (field_row 14 u4 0 unmarked ∷ []) [] ∷ [])
    ∷ []

abbrev fields : List LimitCase
fields =
    bad "a body offset of 13" (with_body (field_row 13 u1 0 unmarked ∷ []))
    ∷ ok "a body offset of 255" (with_body (field_row 255 f8 0 unmarked ∷ []))
    ∷ ok "a gap" (with_body (field_row 20 u2 0 unmarked ∷ field_row 30 u1 0 unmarked ∷ []))
    ∷ ok "first revisions rising to the highest" (with_body (field_row 14 u1 0 unmarked ∷ field_row 15 u1 3 unmarked ∷ field_row 16 u1 3 unmarked ∷ []))
    ∷ bad "a first revision above the highest" (with_body (field_row 14 u1 4 unmarked ∷ []))
    ∷ bad "first revisions falling" (with_body (field_row 14 u1 1 unmarked ∷ field_row 15 u1 0 unmarked ∷ []))
    ∷ ok "sub-fields from 0" (with_subs (field_row 0 f8 0 unmarked ∷ field_row 8 u1 1 unmarked ∷ []))
    ∷ bad "sub-fields that overlap" (with_subs (field_row 0 f8 0 unmarked ∷ field_row 7 u1 0 unmarked ∷ []))
    ∷ bad "first revisions of sub-fields falling" (with_subs (field_row 0 u1 1 unmarked ∷ field_row 1 u1 0 unmarked ∷ []))
    ∷ bad "sub-fields without N and SBLength" (block_row 1 0 [] (field_row 0 u1 0 unmarked ∷ []) ∷ [])
    ∷ bad "N alone" (block_row 1 0 (field_row 14 u1 0 unmarked ∷ []) (field_row 0 u1 0 unmarked ∷ []) ∷ [])
    ∷ bad "N, SBLength and one more" (block_row 1 0 (field_row 14 u1 0 unmarked ∷ field_row 15 u1 0 unmarked ∷ field_row 16 u1 0 unmarked ∷ []) (field_row 0 u1 0 unmarked ∷ []) ∷ [])
    ∷ bad "N with a mark" (block_row 1 0 (field_row 14 u1 0 ones ∷ field_row 15 u1 0 unmarked ∷ []) (field_row 0 u1 0 unmarked ∷ []) ∷ [])
    ∷ bad "SBLength of type i1" (block_row 1 0 (field_row 14 u1 0 unmarked ∷ field_row 15 i1 0 unmarked ∷ []) (field_row 0 u1 0 unmarked ∷ []) ∷ [])
    ∷ bad "SBLength at 16" (block_row 1 0 (field_row 14 u1 0 unmarked ∷ field_row 16 u1 0 unmarked ∷ []) (field_row 0 u1 0 unmarked ∷ []) ∷ [])
    ∷ bad "SBLength from revision 1" (block_row 1 1 (field_row 14 u1 0 unmarked ∷ field_row 15 u1 1 unmarked ∷ []) (field_row 0 u1 0 unmarked ∷ []) ∷ [])
    ∷ []

-- T20: N1, SB1Length and SB2Length, and what follows them
abbrev triple : List FieldRow → List FieldRow
triple more = field_row 14 u1 0 unmarked ∷ field_row 15 u1 0 unmarked ∷ field_row 16 u1 0 unmarked ∷ more

-- one block of two levels: its body, and the rows of each level
abbrev with_levels : List FieldRow → List FieldRow → List FieldRow → List BlockRow
with_levels body first second = level_row (length first) body (first ++ second) ∷ []

-- a first level: a field, and behind it this row, its last
abbrev ends_in : FieldRow → List FieldRow
ends_in last = field_row 0 u4 0 unmarked ∷ last ∷ []

abbrev first_level : List FieldRow
first_level = ends_in (field_row 4 u1 0 unmarked)

-- that first level under this body; and a second level below it
abbrev under_body : List FieldRow → List BlockRow
under_body body = with_levels body first_level (field_row 0 u1 0 unmarked ∷ [])

abbrev below_first : List FieldRow → List BlockRow
below_first second = with_levels (triple []) first_level second

-- T37 in small: epochs of measurements, between blocks of one level
abbrev epochs : BlockRow
epochs =
    level_row 3 (triple (field_row 17 u1 0 unmarked ∷ field_row 18 u1 1 unmarked ∷ []))
    (field_row 0 u1 0 unmarked ∷ field_row 1 i4 0 least ∷ field_row 5 u1 0 unmarked ∷ field_row 0 u1 0 ones ∷ field_row 1 u2 0 unmarked ∷ [])

abbrev levels : List LimitCase
levels =
    ok "two levels, between blocks of one" (block_row 0 0 (field_row 14 u4 0 unmarked ∷ []) [] ∷ epochs ∷ block_row 2 0 (field_row 14 u4 0 unmarked ∷ []) [] ∷ [])
    ∷ ok "as many first-level rows as sub-field rows" (level_row 2 (triple []) first_level ∷ [])
    ∷ bad "one more first-level row than sub-field rows" (level_row 3 (triple []) first_level ∷ [])
    ∷ ok "N2 alone" (with_levels (triple []) (field_row 0 u1 0 unmarked ∷ []) [])
    ∷ ok "N2 at 255" (with_levels (triple []) (ends_in (field_row 255 u1 0 unmarked)) [])
    ∷ bad "N2 of type u2" (with_levels (triple []) (ends_in (field_row 4 u2 0 unmarked)) [])
    ∷ bad "N2 of type i1" (with_levels (triple []) (ends_in (field_row 4 i1 0 unmarked)) [])
    ∷ bad "N2 with a mark" (with_levels (triple []) (ends_in (field_row 4 u1 0 ones)) [])
    ∷ bad "N2 from revision 1" (with_levels (triple []) (ends_in (field_row 4 u1 1 unmarked)) [])
    ∷ bad "N2 not the first level's last" (level_row 1 (triple []) first_level ∷ [])
    ∷ ok "N1, SB1Length and SB2Length alone" (under_body (triple []))
    ∷ bad "two levels without a body" (under_body [])
    ∷ bad "two levels with N and SBLength alone" (under_body (field_row 14 u1 0 unmarked ∷ field_row 15 u1 0 unmarked ∷ []))
    ∷ bad "N1 with a mark" (under_body (field_row 14 u1 0 ones ∷ field_row 15 u1 0 unmarked ∷ field_row 16 u1 0 unmarked ∷ []))
    ∷ bad "SB1Length of type i1" (under_body (field_row 14 u1 0 unmarked ∷ field_row 15 i1 0 unmarked ∷ field_row 16 u1 0 unmarked ∷ []))
    ∷ bad "SB2Length at 17" (under_body (field_row 14 u1 0 unmarked ∷ field_row 15 u1 0 unmarked ∷ field_row 17 u1 0 unmarked ∷ []))
    ∷ bad "SB2Length from revision 1" (under_body (field_row 14 u1 0 unmarked ∷ field_row 15 u1 0 unmarked ∷ field_row 16 u1 1 unmarked ∷ []))
    ∷ ok "a fourth body field that ends at 20" (under_body (triple (field_row 18 u2 0 unmarked ∷ [])))
    ∷ bad "a fourth body field that ends at 21" (under_body (triple (field_row 17 u4 0 unmarked ∷ [])))
    ∷ bad "a body field at 20" (under_body (triple (field_row 17 u1 0 unmarked ∷ field_row 20 u1 0 unmarked ∷ [])))
    ∷ bad "first-level fields that overlap" (with_levels (triple []) (ends_in (field_row 3 u1 0 unmarked)) [])
    ∷ ok "second-level offsets that start again at 0" (below_first (field_row 0 u2 0 unmarked ∷ field_row 2 u1 0 unmarked ∷ []))
    ∷ bad "second-level fields that overlap" (below_first (field_row 0 u2 0 unmarked ∷ field_row 1 u1 0 unmarked ∷ []))
    ∷ ok "second-level first revisions rising to the highest" (below_first (field_row 0 u1 1 unmarked ∷ field_row 1 u1 3 unmarked ∷ []))
    ∷ bad "second-level first revisions falling" (below_first (field_row 0 u1 1 unmarked ∷ field_row 1 u1 0 unmarked ∷ []))
    ∷ bad "a second-level first revision above the highest" (below_first (field_row 0 u1 4 unmarked ∷ []))
    ∷ bad "a second-level mark that the type may not bear" (below_first (field_row 0 u1 0 least ∷ []))
    ∷ []

abbrev types : List LimitCase
types =
    bad "type 0" (bears 0 unmarked)
    ∷ bad "type 11" (bears 11 unmarked)
    ∷ ok "a mark that the type may bear" (bears i8 least)
    ∷ bad "a mark that it may not bear" (bears u8 least)
    ∷ ok "the mark of seeds on u2" (bears u2 seed)
    ∷ bad "the mark of seeds on u1" (bears u1 seed)
    ∷ bad "the mark of seeds on u4" (bears u4 seed)
    ∷ bad "the mark of seeds on i2" (bears i2 seed)
    ∷ bad "a mark that is None" (bears u8 6)
    ∷ []

-- a field of the type at 14, and the next one here
abbrev followed : ℕ → ℕ → List BlockRow
followed kind next = with_body (field_row 14 kind 0 unmarked ∷ field_row next u1 0 unmarked ∷ [])

-- a type of the grid, by its size
abbrev size_cases : GridRow → List LimitCase
size_cases r =
    ok "a field where the previous one ends" (followed r.kind (14 + r.size))
    ∷ bad "a field a byte before the previous one ends" (followed r.kind (13 + r.size))
    ∷ []

-- bytes before the CRC, closed with the right one
abbrev closed : List ℕ → List ℕ
closed bs = bs ++ (u2_bytes (crc_of bs) ++ (0x42 ∷ 0x54 ∷ []))

-- a file of 32 bytes: a field row at 0, block rows at 4 and 12, the trailer at 20
abbrev small : Table
small = table_with (block_row 1 0 (field_row 14 u1 0 unmarked ∷ []) [] ∷ block_row 2 0 [] [] ∷ [])

-- that file with another byte, and the right CRC
abbrev other : String → ℕ → ℕ → LimitCase
other name place byte = record { name = name; bytes = closed (set (unsealed small) place byte); passes = false }

abbrev files : List LimitCase
files =
    record { name = "the small file"; bytes = closed (unsealed small); passes = true }
    ∷ other "a count of first-level rows above the sub-field rows" 11 1
    ∷ other "a first index that is not the sum" 16 0
    ∷ record { name = "counts that leave a field row"; bytes = closed (set (unsealed (table_with (with_body (field_row 14 u1 0 unmarked ∷ [])))) 7 0); passes = false }
    ∷ other "counts beyond the field rows" 15 1
    ∷ other "a count that is not R" 22 1
    ∷ other "another distance to the block rows" 24 29
    ∷ other "another distance to the field rows" 26 33
    ∷ record { name = "a byte between field rows and block rows"; bytes = closed (set (take 4 (unsealed small) ++ (0 ∷ drop 4 (unsealed small))) 27 33); passes = false }
    ∷ record { name = "another CRC"; bytes = set (encode small) 28 0; passes = false }
    ∷ record { name = "another first closing byte"; bytes = set (encode small) 30 0x54; passes = false }
    ∷ record { name = "another second closing byte"; bytes = set (encode small) 31 0x32; passes = false }
    ∷ record { name = "a byte short"; bytes = take 31 (encode small); passes = false }
    ∷ record { name = "19 bytes"; bytes = take 19 (encode small); passes = false }
    ∷ record { name = "no bytes"; bytes = []; passes = false }
    ∷ []

abbrev pub limit_cases : List LimitCase
limit_cases = rows ++ (fields ++ (levels ++ (types ++ (flat_map size_cases grid ++ files))))

abbrev pub LimitsHold : Type 0
LimitsHold = map (λ (c : LimitCase). table_ok c.bytes) limit_cases ≡ map (λ (c : LimitCase). c.passes) limit_cases

-- The marks of the grid, each in a table of its own. The rules on form name no mark, so these are held against those on meaning.

-- T15: of a type, whether a table with each mark passes
abbrev marks_pass : GridRow → List Bool
marks_pass r = map (λ (mark : ℕ). meaning_ok (decode (encode (table_with (bears r.kind mark))))) marks_tried

-- V3: whether the type may bear the mark, by the grid's cell
abbrev borne : Option (List ℕ) → Bool
borne None = false
borne (Some bits) = true

abbrev marks_borne : GridRow → List Bool
marks_borne r = map borne r.cells

abbrev pub MarksHold : Type 0
MarksHold = map marks_pass grid ≡ map marks_borne grid
