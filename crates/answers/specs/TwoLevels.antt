-- Where the sub-blocks of a block of two levels stand that is read (rules T21, R8): all of them in the block, and no two in one place.
-- Assumes nothing.
use Rattle.std.specs.Prelude.{ℕ, ◌+◌, ◌≤◌, ◌<◌, ◌≡◌, List, length, Some}
use Rattle.table.specs.Lists.{pick}
use Rattle.table.specs.Rows.{BlockRow, Table}
use Rattle.walk.specs.declared.Span.{Span}
use Rattle.walk.specs.Walk.{places}
use Rattle.block.specs.Block.{walk_of, row, seen}

-- the places of both levels, in the order of the walk. Empty ones may stand at one place, as ranges they do not overlap either
pub record TwoLevelsLaid : Type 0 where
  pub inside : (tab : Table) (b : List ℕ) (r : BlockRow) → seen tab b ≡ row r → (r.firsts ≡ 0 → ⊥) → (i : ℕ) (s : Span)
      → pick (places (walk_of r b)) i ≡ Some s → s.at + s.size ≤ length b
  pub apart : (b : List ℕ) (r : BlockRow) (i j : ℕ) (s t : Span) → i < j → pick (places (walk_of r b)) i ≡ Some s → pick (places (walk_of r b)) j ≡ Some t
      → s.at + s.size ≤ t.at
