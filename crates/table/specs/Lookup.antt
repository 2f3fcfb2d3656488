-- Finding a block's row in a decoded table (rule R6), the fields that a revision carries (V5), and what `find` promises.
-- Assumes nothing.
use Rattle.std.specs.Prelude.{Bool, true, List, ◌≡◌, ℕ, ◌+◌, ◌≤◌, ◌<◌, leb, eqb, Option, option_map, IfSome}
use Rattle.rows.specs.declared.FieldRow.{FieldRow}
use Rattle.table.specs.Lists.{first_that}
use Rattle.table.specs.Rows.{BlockRow, Table}
use Rattle.rows.specs.Places.{block_count, field_count, row_at}
use Rattle.table.specs.Decode.{block_of, decode}
use Rattle.table.specs.Rules.{block_ok}
use Rattle.table.specs.declared.Shape.{Shape}
use Rattle.table.specs.Shape.{shape_says}

abbrev pub has_number : ℕ → BlockRow → Bool
has_number n b = eqb b.number n

-- R6: the row that has the block's number, or none
unfoldable pub find_row : Table → ℕ → Option BlockRow
find_row tab n = first_that (has_number n) tab.rows

-- V5: whether a revision carries a field
abbrev pub carried : ℕ → FieldRow → Bool
carried revision f = leb f.first revision

-- s is a block row of the table; what a caller may use of it: its field rows are there, and they keep the rules
pub record Stands (t : List ℕ) (s : Shape) : Type 0 where
  pub index : ℕ
  pub within : index < block_count t
  pub is : shape_says s ≡ block_of t (row_at t index)
  pub inside : (row_at t index).start + (row_at t index).bodies + (row_at t index).subs ≤ field_count t
  pub rules : block_ok (shape_says s) ≡ true

-- the answer means the decoded table's row of that number, and is a row of the table where there is one
pub record Finding (t : List ℕ) (n : ℕ) (f : Option Shape) : Type 0 where
  -- D9: what the code's answer means
  pub is : option_map shape_says f ≡ find_row (decode t) n
  pub stands : IfSome f (Stands t)
