-- A block of two levels that is read has passed R8, so that its walk ends in it.
-- Assumes nothing.
use mathlib.Core.Path.{◌≡◌, refl, subst}
use mathlib.Core.List.{List}
use mathlib.Core.Bool.{Bool, true, false, ◌&&◌, ◌||◌, cond}
use Rattle.std.proofs.Common.{Option, None, Some}
use Prim.Native.Nat.{ℕ, ◌≤◌}
use native.Mathlib.Omega.{arith}
use lib.Dec.{leb, eqb}
use lib.ListN.{length}
use borrow.Author.Tests.{leb-true, ne_eqb}
use Rattle.wire.proofs.Tests.{both}
use Rattle.frame.specs.Frame.{whole_frame}
use Rattle.table.specs.Lists.{every}
use Rattle.table.specs.Rows.{BlockRow, Table, first_rows, nested_row}
use Rattle.table.specs.Lookup.{find_row}
use Rattle.walk.specs.Walk.{walk_end}
use Rattle.walk.proofs.Laid.{laid}
use Rattle.block.specs.Block.{number_in, revision_in, count_in, sub_length_in, ends_by, body_fits, offset_of, walk_of, nest_fits, subs_fit, refused_by, row, seen_row, seen}
use Rattle.answers.specs.TwoLevels.{TwoLevelsLaid}

-- a refusal is no row
no_row : {X : Type 0} {n : ℕ} {r : BlockRow} → refused_by n ≡ row r → X
no_row e = absurd cc

module _ (b : List ℕ) (r : BlockRow) where
  by_row : (q : BlockRow) (c d : Bool) → subs_fit b q ≡ d → cond c (cond d (row q) (refused_by 8)) (refused_by 7) ≡ row r → subs_fit b r ≡ true
  by_row q true true f e = let z : q ≡ r = cc in subst (λ (x : BlockRow). subs_fit b x ≡ true) z f
  by_row q true false f e = no_row e
  by_row q false d f e = no_row e

  by_found : (o : Option BlockRow) → seen_row b o ≡ row r → subs_fit b r ≡ true
  unfolding seen_row
  by_found None e = no_row e
  by_found (Some q) e = by_row q (body_fits b q) (subs_fit b q) refl e

  by_frame : (c : Bool) (o : Option BlockRow) → cond c (seen_row b o) (refused_by 10) ≡ row r → subs_fit b r ≡ true
  by_frame true o e = by_found o e
  by_frame false o e = no_row e

  passed : (tab : Table) → seen tab b ≡ row r → subs_fit b r ≡ true
  unfolding seen
  passed tab e = by_frame (whole_frame b) (find_row tab (number_in b)) e

  ends : subs_fit b r ≡ true → (r.firsts ≡ 0 → ⊥) → walk_end 20 (walk_of r b) ≤ length b
  unfolding subs_fit nest_fits
  ends e two =
      let f = rw (ne_eqb r.firsts 0 two) at e in
      let first = eqb (count_in b) 0 || every (ends_by (revision_in b) (sub_length_in b)) (first_rows r) in
      let a = both (leb 20 (length b) && leb (walk_end 20 (walk_of r b)) (length b) && first) _ f in
      let c = both (leb 20 (length b) && leb (walk_end 20 (walk_of r b)) (length b)) _ a.0 in
      leb-true _ _ (both (leb 20 (length b)) _ c.0).1

pub two_levels_laid : TwoLevelsLaid
two_levels_laid =
    record {
      inside = λ tab b r e two i s p. omega (arith, laid.inside (offset_of (nested_row r)) b i s p, ends b r (passed b r tab e) two);
      apart = λ b r i j s t l p q. laid.apart (offset_of (nested_row r)) b i j s t l p q;
    }
