-- The part of a block that the code takes is the sub-block.
-- Assumes nothing.
use mathlib.Core.Path.{◌≡◌, refl}
use mathlib.Core.List.{List, []}
use Rattle.std.proofs.Common.{Some}
use Prim.Native.Nat.{ℕ, ◌+◌, ◌≤◌}
use native.Mathlib.Omega.{arith}
use lib.ListN.{length, drop, length-drop}
use lib.Seq.{length-take-le}
use Rattle.table.specs.Rows.{Table}
use Rattle.walk.specs.declared.Span.{Span}
use Rattle.block.specs.Block.{Seen, refused_by, row, seen_sub}
use Rattle.record.specs.Calls.{sub_slice, part_by, place_by, number_by, sub_block, sub_place}

module _ (b : List ℕ) (s : Span) (h : s.at + s.size ≤ length b) where
  pub part_long : length (sub_slice b s) ≡ s.size
  unfolding sub_slice
  part_long = let l : s.size ≤ length (drop s.at b) = rw length-drop (omega arith) in length-take-le s.size (drop s.at b) l

-- the part that stands at a call's place is the one that it hands back
part_by_lem : (b : List ℕ) (k : ℕ) (x : Seen) → sub_slice b (place_by b k x) ≡ part_by b k x
unfolding sub_slice
part_by_lem b k (refused_by n) = refl
part_by_lem b k (row r) = refl

pub part_at : (tab : Table) (b : List ℕ) (k : ℕ) → sub_slice b (sub_place tab b k) ≡ sub_block tab b k
unfolding sub_place sub_block
part_at tab b k = part_by_lem b k (seen_sub tab b k)

-- and it is empty where the call is refused
pub refused_part : (b : List ℕ) (k : ℕ) (x : Seen) (n : ℕ) → number_by x ≡ Some n → part_by b k x ≡ []
refused_part b k (refused_by m) n e = refl
refused_part b k (row r) n e = cc
