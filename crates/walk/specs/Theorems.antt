-- The places of a walk: they lie in the block where the walk ends in it, and they do not overlap (rule T21).
-- Assumes nothing.
use Rattle.std.specs.Prelude.{ℕ, ◌+◌, ◌≤◌, ◌<◌, ◌≡◌, List, length, Some}
use Rattle.table.specs.Lists.{pick}
use Rattle.walk.specs.declared.Span.{Span}
use Rattle.walk.specs.Walk.{count_in, walk_over, places, walk_end}

-- of any block and any offset of N2
pub record WalkLaid : Type 0 where
  -- N1 first-level sub-blocks
  pub all : (n2 : ℕ) (b : List ℕ) → length (walk_over n2 b) ≡ count_in b
  -- every place starts at 20 or later, and ends by the walk's end
  pub after : (n2 : ℕ) (b : List ℕ) (i : ℕ) (s : Span) → pick (places (walk_over n2 b)) i ≡ Some s → 20 ≤ s.at
  pub inside : (n2 : ℕ) (b : List ℕ) (i : ℕ) (s : Span) → pick (places (walk_over n2 b)) i ≡ Some s → s.at + s.size ≤ walk_end 20 (walk_over n2 b)
  -- so no byte is in two of them: each ends where a later one starts, or before
  pub apart : (n2 : ℕ) (b : List ℕ) (i j : ℕ) (s t : Span) → i < j → pick (places (walk_over n2 b)) i ≡ Some s → pick (places (walk_over n2 b)) j ≡ Some t
      → s.at + s.size ≤ t.at
