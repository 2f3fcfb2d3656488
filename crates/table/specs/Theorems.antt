-- Theorems about tables that pass.
-- Assumes nothing.
use Rattle.std.specs.Prelude.{true, List, ◌≡◌, ℕ, Some}
use Rattle.table.specs.Lists.{pick}
use Rattle.table.specs.Rows.{BlockRow}
use Rattle.table.specs.Decode.{decode}
use Rattle.table.specs.Rules.{table_ok}

-- T8: so a number has one row
abbrev pub OneRow : Type 0
OneRow =
    (t : List ℕ) → table_ok t ≡ true → (i j : ℕ) (a b : BlockRow) → pick (decode t).rows i ≡ Some a → pick (decode t).rows j ≡ Some b
    → a.number ≡ b.number → i ≡ j
