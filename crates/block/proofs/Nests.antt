-- A sub-block of a block that passed: it lies in the block with those nested in it, and its level's carried fields lie in it.
-- Assumes nothing.
use mathlib.Core.Path.{◌≡◌, refl, sym, ◌∙◌, subst}
use mathlib.Core.List.{List}
use mathlib.Core.Bool.{Bool, true, false, not, ◌&&◌, ◌||◌}
use Prim.Native.Nat.{ℕ, suc, ◌+◌, ◌*◌, ◌<◌, ◌≤◌}
use native.Mathlib.Omega.{arith}
use native.Mathlib.Nat.{mul-le-mul_right, suc-mul}
use lib.ListN.{length}
use lib.Dec.{leb, eqb}
use borrow.Author.Tests.{leb-true, eqb-true, eq-eqb, ne_eqb}
use Rattle.table.specs.Lists.{every, pick}
use Rattle.table.specs.Rows.{first_rows, second_rows, nested_row}
use Rattle.table.specs.declared.Shape.{Shape}
use Rattle.table.specs.Shape.{fields_of, shape_says}
use Rattle.std.proofs.lemmas.List.{length-map}
use Rattle.table.proofs.Levels.{one_first}
use Rattle.walk.specs.declared.Nest.{Nest}
use Rattle.walk.specs.Walk.{second_length_in, nest_end, walk_end, any_second, nest_or}
use Rattle.walk.proofs.Nests.{Come, come_to}
use Rattle.block.specs.Block.{revision_in, count_in, sub_length_in, ends_by, one_span, one_fits, offset_of, walk_of, nest_fits, subs_fit, alone, nest_of, Fine}
use Rattle.wire.proofs.Tests.{both}

pub record NestFine (b : List ℕ) (s : Shape) (n : Nest) : Type 0 where
  pub within : nest_end n ≤ length b
  pub fields : every (ends_by (revision_in b) n.first.size) (first_rows (shape_says s)) ≡ true
  pub nested : 0 < n.count → every (ends_by (revision_in b) n.size) (second_rows (shape_says s)) ≡ true

module _ (b : List ℕ) (s : Shape) (fine : Fine b s) (some_subs : length s.subs.now ≡ 0 → ⊥) (k : ℕ) (h : k < count_in b) where
  -- of one level: N sub-blocks end where one more would start
  module _ (one : s.firsts ≡ 0) where
    one_row : (shape_says s).firsts ≡ 0
    one_row = one

    one-passed : one_fits b (shape_says s) ≡ true
    unfolding subs_fit
    one-passed = rw (eq-eqb s.firsts 0 one) at fine.subs

    inner : (every (ends_by (revision_in b) (sub_length_in b)) (shape_says s).subs ≡ true) × (16 + k * sub_length_in b + sub_length_in b ≤ length b)
    unfolding one_fits
    inner =
        let o : count_in b ≡ 0 → ⊥ = λ z. omega arith in
        let a = rw (length-map, ne_eqb (length s.subs.now) 0 some_subs, ne_eqb (count_in b) 0 o) at one-passed in
        let e = both (every (ends_by (revision_in b) (sub_length_in b)) (fields_of s.subs.now)) _ a in
        let u : 16 + count_in b * sub_length_in b ≤ length b = leb-true _ _ e.1 in
        let v : suc k * sub_length_in b ≤ count_in b * sub_length_in b = mul-le-mul_right (sub_length_in b) h in
        let w = suc-mul k (sub_length_in b) in
        (e.0, omega arith)

    one_fine : NestFine b s (alone (one_span b k))
    one_fine =
        record {
          within = omega (arith, inner.1);
          fields = rw (one_first (shape_says s) one_row) inner.0;
          nested = λ l. let z : ⊥ = omega arith in absurd z;
        }

  -- of two: the walk ends in the block, and this one by its end
  module _ (two : s.firsts ≡ 0 → ⊥) where
    two_passed : nest_fits b (shape_says s) ≡ true
    unfolding subs_fit
    two_passed = rw (ne_eqb s.firsts 0 two) at fine.subs

    parts : (walk_end 20 (walk_of (shape_says s) b) ≤ length b) × (every (ends_by (revision_in b) (sub_length_in b)) (first_rows (shape_says s)) ≡ true)
        × ((not (any_second (walk_of (shape_says s) b)) || every (ends_by (revision_in b) (second_length_in b)) (second_rows (shape_says s))) ≡ true)
    unfolding nest_fits
    parts =
        let x = every (ends_by (revision_in b) (sub_length_in b)) (first_rows (shape_says s)) in
        let e = leb (walk_end 20 (walk_of (shape_says s) b)) (length b) in
        let o : count_in b ≡ 0 → ⊥ = λ z. omega arith in
        let p = rw (ne_eqb (count_in b) 0 o) at two_passed in
        let c = both (leb 20 (length b) && e && x) _ p in
        let d = both (leb 20 (length b) && e) _ c.0 in
        let f = both (leb 20 (length b)) _ d.0 in
        (leb-true _ _ f.1, d.1, c.1)

    comes : Come b (walk_end 20 (walk_of (shape_says s) b)) (any_second (walk_of (shape_says s) b)) (nest_or (pick (walk_of (shape_says s) b) k))
    comes = come_to (offset_of (nested_row (shape_says s))) b k h

    two_fine : NestFine b s (nest_or (pick (walk_of (shape_says s) b) k))
    two_fine =
        record {
          within = omega (arith, parts.0, comes.by);
          fields = rw comes.size parts.1;
          nested = λ l. rw comes.nested (rw (comes.some_nested l) at parts.2);
        }

  by : (x : Bool) → eqb s.firsts 0 ≡ x → NestFine b s (nest_of (shape_says s) b k)
  unfolding nest_of
  by true e = subst (NestFine b s) (rw e) (one_fine (eqb-true _ _ e))
  by false e = subst (NestFine b s) (rw e) (two_fine (λ z. let y : true ≡ false = sym (eq-eqb s.firsts 0 z) ∙ e in let n : ◌≡◌ {A = ℕ} 0 1 = cc in let f : ⊥ = omega arith in f))

  pub nest_fine : NestFine b s (nest_of (shape_says s) b k)
  nest_fine = by (eqb s.firsts 0) refl
