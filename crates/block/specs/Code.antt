-- Working definitions that only contracts inside the crate cite.
-- Assumes nothing.
use Rattle.std.specs.Prelude.{ℕ, ◌<◌, ◌≡◌, List, Some, Result, IfOk}
use Rattle.refusal.specs.declared.Refusal.{Refusal}
use Rattle.table.specs.declared.Shape.{Shape}
use Rattle.table.specs.Decode.{decode}
use Rattle.table.specs.Shape.{shape_says}
use Rattle.walk.specs.declared.Nest.{Nest}
use Rattle.block.specs.Block.{count_in, nest_of, seen_row, seen, sub_matched_says, Fine}

-- of a row that a block passed by: what a caller may use of it, and sub-block k, if the block has so many
pub record Looked (b : List ℕ) (k : ℕ) (s : Shape) (n : Nest) : Type 0 where
  pub fine : Fine b s
  pub nest : k < count_in b → n ≡ nest_of (shape_says s) b k

-- of a row whose block is a whole frame: what refusals 7 and 8 make of it
pub record Fitting (b : List ℕ) (k : ℕ) (s : Shape) (l : Result (Shape × Nest) Refusal) : Type 0 where
  pub is : sub_matched_says l ≡ seen_row b (Some (shape_says s))
  pub fine : IfOk l (λ m. Looked b k m.0 m.1)

-- and 10 and 6 before them
pub record Looking (t b : List ℕ) (k : ℕ) (l : Result (Shape × Nest) Refusal) : Type 0 where
  pub is : sub_matched_says l ≡ seen (decode t) b
  pub fine : IfOk l (λ m. Looked b k m.0 m.1)
