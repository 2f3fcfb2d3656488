-- What a block has to hold (rule W9), without its bytes.
-- Assumes nothing.
use Rattle.std.specs.Prelude.{ℕ, ◌+◌, ◌*◌, ◌≤◌, ◌<◌, List, ◌≡◌, length, Some}
use Rattle.rows.specs.declared.FieldRow.{FieldRow}
use Rattle.table.specs.Lists.{pick}
use Rattle.table.specs.Rows.{BlockRow, ends}
use Rattle.draft.specs.Draft.{Draft}

-- V5: n bytes hold each of these fields that the revision carries
abbrev pub HoldsFields : ℕ → List FieldRow → ℕ → Type 0
HoldsFields revision fs n = (i : ℕ) (f : FieldRow) → pick fs i ≡ Some f → f.first ≤ revision → ends f ≤ n

-- W9: n bytes hold TOW and WNc, the carried body fields, and from byte 16 on the sub-blocks of `sub` bytes each
pub record Holds (r : BlockRow) (d : Draft) (sub n : ℕ) : Type 0 where
  pub stamps : 14 ≤ n
  pub body : HoldsFields d.revision r.body n
  pub subs : 0 < length d.subs → 16 + length d.subs * sub ≤ n
