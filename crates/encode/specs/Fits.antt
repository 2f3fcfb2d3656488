-- What the byte form has room for: a file within its size, and numbers within their bytes.
-- Assumes nothing.
use Rattle.std.specs.Prelude.{Bool, ◌&&◌, List, [], ◌∷◌, ℕ, ◌+◌, ◌*◌, ltb, leb, length}
use Rattle.rows.specs.declared.FieldRow.{FieldRow}
use Rattle.table.specs.Lists.{every}
use Rattle.table.specs.Rows.{BlockRow, Table}

-- the field rows of all these blocks
unfoldable pub field_rows : List BlockRow → ℕ
field_rows [] = 0
field_rows (b ∷ bs) = length b.body + length b.subs + field_rows bs

-- T1: the length of its file
unfoldable pub file_size : Table → ℕ
file_size tab = 4 * field_rows tab.rows + 8 * length tab.rows + 12

-- how many numbers a u1 has room for
abbrev pub u1_numbers : ℕ
u1_numbers = 256

-- T7: a count is a u1
abbrev pub count_fits : List FieldRow → Bool
count_fits fs = ltb (length fs) u1_numbers

-- T11: an offset is a u1
abbrev pub offset_fits : FieldRow → Bool
offset_fits f = ltb f.offset u1_numbers

unfoldable pub block_fits : BlockRow → Bool
block_fits b = count_fits b.body && count_fits b.subs && every offset_fits b.body && every offset_fits b.subs

-- T1: the file is not too long; T2: the version is a u2; T3: a block row is there. All other numbers are within their bytes by the rules.
unfoldable pub fits : Table → Bool
fits tab = leb (file_size tab) 8192 && ltb tab.version 65536 && leb 1 (length tab.rows) && every block_fits tab.rows
