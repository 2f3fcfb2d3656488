-- The block rows of a meaning, as they are to stand in its file, and the rules on them.
-- Assumes nothing.
use mathlib.Core.Bool.{true}
use mathlib.Core.List.{List, [], ◌∷◌}
use mathlib.Core.Path.{◌≡◌, refl, ap}
use Prim.Native.Nat.{ℕ, ◌+◌}
use lib.ListN.{length}
use borrow.Author.Tests.{eq-eqb}
use Rattle.rows.specs.declared.Row.{Row}
use Rattle.table.specs.Rows.{BlockRow}
use Rattle.table.specs.Rules.{index_ok, used_fields}
use Rattle.encode.specs.Fits.{field_rows}
use Rattle.wire.proofs.Tests.{both_true}

-- a block's row, where so many field rows are before its own
unfoldable pub row_for : ℕ → BlockRow → Row
row_for before b = record { number = b.number; highest = b.highest; bodies = length b.body; start = before; subs = length b.subs; firsts = b.firsts }

unfoldable pub rows_for : ℕ → List BlockRow → List Row
rows_for before [] = []
rows_for before (b ∷ bs) = row_for before b ∷ rows_for (before + (length b.body + length b.subs)) bs

pub index_for : (before : ℕ) (bs : List BlockRow) → index_ok before (rows_for before bs) ≡ true
unfolding index_ok rows_for row_for
index_for before [] = refl
index_for before (b ∷ bs) = both_true (eq-eqb before before refl) (index_for (before + (length b.body + length b.subs)) bs)

pub counts_for : (before : ℕ) (bs : List BlockRow) → used_fields (rows_for before bs) ≡ field_rows bs
unfolding used_fields rows_for row_for field_rows
counts_for before [] = refl
counts_for before (b ∷ bs) =
    ap (λ (n : ℕ). length b.body + length b.subs + n) (counts_for (before + (length b.body + length b.subs)) bs)
