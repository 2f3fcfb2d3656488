-- Working definitions for the code: where a list ends, and fields that stand one after the other.
-- Assumes nothing.
use Rattle.std.specs.Prelude.{ℕ, Bool, true, ◌&&◌, List, [], ◌∷◌, leb}
use Rattle.rows.specs.declared.FieldRow.{FieldRow}
use Rattle.table.specs.Rows.{ends}
use Rattle.draft.specs.Code.{ListLeft}

-- the list that has p ends at q, whatever the bits are
abbrev pub Ending : List ℕ → ℕ → ℕ → Type 0
Ending kinds p q = (bits : List ℕ) → ListLeft kinds bits p q

-- T12, T13: each field starts at `at` or later, and not before the one before it ends
unfoldable pub in_order : ℕ → List FieldRow → Bool
in_order at [] = true
in_order at (f ∷ fs) = leb at f.offset && in_order (ends f) fs
