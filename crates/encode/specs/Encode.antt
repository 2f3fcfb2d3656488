-- From meaning to bytes: the file of a decoded table (rules T1, T2, T4 to T7, T10, T11, T17).
-- Assumes nothing.
use Rattle.std.specs.Prelude.{List, [], ◌∷◌, ◌++◌, ℕ, ◌+◌, ◌*◌, ◌/◌, ◌%◌, length}
use Rattle.crc.specs.Crc.{crc_of}
use Rattle.rows.specs.declared.FieldRow.{FieldRow}
use Rattle.table.specs.Rows.{BlockRow, Table}

-- F1: a u2
unfoldable pub u2_bytes : ℕ → List ℕ
u2_bytes n = n % 256 ∷ n / 256 ∷ []

-- T11: field rows
unfoldable pub field_bytes : List FieldRow → List ℕ
field_bytes [] = []
field_bytes (f ∷ fs) = f.offset ∷ f.kind ∷ f.first ∷ f.mark ∷ field_bytes fs

-- T10: the field rows of all these blocks
unfoldable pub fields_part : List BlockRow → List ℕ
fields_part [] = []
fields_part (b ∷ bs) = field_bytes b.body ++ (field_bytes b.subs ++ fields_part bs)

-- T7, T17: block rows, where so many field rows are before the first of these (T10)
unfoldable pub rows_part : ℕ → List BlockRow → List ℕ
rows_part before [] = []
rows_part before (b ∷ bs) =
    let next = before + (length b.body + length b.subs) in
    u2_bytes b.number ++ (b.highest ∷ length b.body ∷ (u2_bytes before ++ (length b.subs ∷ b.firsts ∷ rows_part next bs)))

-- T1, T2, T4: all before the CRC
unfoldable pub unsealed : Table → List ℕ
unsealed tab =
    let rows = fields_part tab.rows ++ rows_part 0 tab.rows in
    let count = length tab.rows in
    rows ++ (u2_bytes tab.version ++ (u2_bytes count ++ (u2_bytes (12 + 8 * count) ++ u2_bytes (length rows + 12))))

-- T5, T6: the CRC and the closing bytes
unfoldable pub encode : Table → List ℕ
encode tab = unsealed tab ++ (u2_bytes (crc_of (unsealed tab)) ++ (0x42 ∷ 0x54 ∷ []))
