-- The bytes of fields (rules W6, W8).
-- Assumes nothing.
use Rattle.std.specs.Prelude.{ℕ, ◌-◌, cond, List, [], ◌∷◌, ◌++◌, get_or, drop, replicate, None, unwrap_or}
use Rattle.kinds.specs.Types.{size_of}
use Rattle.rows.specs.declared.FieldRow.{FieldRow}
use Rattle.table.specs.Rows.{ends}
use Rattle.table.specs.Lookup.{carried}
use Rattle.pen.specs.Bytes.{little_bytes}
use Rattle.entry.specs.Wanted.{Wanted}
use Rattle.entry.specs.Bits.{bits_of}

-- W6: the bytes of a field
abbrev pub field_bits : FieldRow → Wanted → ℕ
field_bits f w = unwrap_or (bits_of f w) 0

abbrev pub field_out : FieldRow → Wanted → List ℕ
field_out f w = little_bytes (size_of f.kind) (field_bits f w)

abbrev pub zeros : ℕ → List ℕ
zeros n = replicate n 0

-- W8: the carried fields at their offsets, from `at` on, with zeros between
unfoldable pub laid : ℕ → ℕ → List FieldRow → List Wanted → List ℕ
laid revision at [] ws = []
laid revision at (f ∷ fs) ws =
    cond (carried revision f)
    (zeros (f.offset - at) ++ (field_out f (get_or ws 0 None) ++ laid revision (ends f) fs (drop 1 ws)))
    (laid revision at fs (drop 1 ws))
