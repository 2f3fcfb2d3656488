-- The loops: what is left of the rows gives the whole. Each way through a turn is one law.
-- Assumes nothing.
use mathlib.Core.Bool.{Bool, true, false, ◌&&◌, cond, and-false}
use mathlib.Core.List.{List, [], ◌∷◌}
use Rattle.std.proofs.Common.{Option, None, Some}
use mathlib.Core.Path.{◌≡◌, refl, sym, ap, ◌∙◌}
use Prim.Native.Nat.{ℕ, ◌+◌, ◌-◌, ◌<◌, ◌≤◌}
use lib.Dec.{leb, eqb}
use lib.ListN.{take, drop, get_or, length}
use native.Mathlib.Omega.{arith}
use borrow.Author.Tests.{leb-true, eqb-true, eq-eqb, ne_eqb, le-leb, lt-leb}
use Rattle.rows.specs.declared.FieldRow.{FieldRow}
use Rattle.rows.specs.declared.Row.{Row}
use Rattle.table.specs.Lists.{tabulate, every, first_that}
use Rattle.table.specs.Rows.{ends}
use Rattle.rows.specs.Places.{row_at}
use Rattle.table.specs.Decode.{block_of}
use Rattle.table.specs.Rules.{is_count, is_pair, is_nested, is_triple, early, nest_ok}
use Rattle.table.specs.Code.{field_step, field_pass, one_pass, two_pass, block_pass, row_step, row_pass}
use Rattle.rows.specs.Places.{field_of}
use Rattle.table.specs.Shape.{fields_of, shape_says}
use Rattle.table.specs.declared.Shape.{Shape}
use Rattle.std.proofs.Math.ListN.{drop_of_length-le}
use Rattle.std.proofs.lemmas.List.{take-map, drop-map, length-map}
use Rattle.table.proofs.FieldRows.{none_left, one_left, fields_pick}
use Rattle.table.proofs.Bools.{last_four}
use Rattle.table.proofs.Lists.{tab_none, tab-more}
use Rattle.wire.proofs.Tests.{both}

-- field rows
module _ (rows : List (List ℕ)) (k low rev top : ℕ) (whole : Bool) (inv : whole ≡ field_pass low rev top (fields_of (drop k rows))) where
  pub fields_done : length rows ≤ k → true ≡ whole
  unfolding field_pass
  fields_done h = sym (inv ∙ ap (field_pass low rev top) (none_left rows k h))

  module _ (f : FieldRow) (d : List ℕ) (g : f ≡ field_of (get_or rows k d)) (h : k < length rows) where
    by : whole ≡ (field_step low rev top f && field_pass (ends f) f.first top (fields_of (drop (k + 1) rows)))
    unfolding field_pass
    by = inv ∙ ap (field_pass low rev top) (one_left rows k d h) ∙ rw g

    pub fields_stop : field_step low rev top f ≡ false → false ≡ whole
    fields_stop e = sym (by ∙ rw e)

    pub fields_go : field_step low rev top f ≡ true → (n : ℕ) → n ≡ ends f → whole ≡ field_pass n f.first top (fields_of (drop (k + 1) rows))
    fields_go e n u = by ∙ rw (e, u)

-- N and SBLength
pub pair_two : (rows : List (List ℕ)) {n s : FieldRow} {x y : Bool} (d : List ℕ) → 2 ≤ length rows → length rows < 3
    → n ≡ field_of (get_or rows 0 d) → s ≡ field_of (get_or rows 1 d) → x ≡ is_count 14 n → y ≡ is_count 15 s → (x && y) ≡ is_pair (fields_of rows)
unfolding is_pair
pair_two [] d l h u v a b = absurd (omega arith)
pair_two (r ∷ []) d l h u v a b = absurd (omega arith)
pair_two (r ∷ q ∷ []) d l h u v a b = rw (a, b, u, v)
pair_two (r ∷ q ∷ p ∷ rows) d l h u v a b = absurd (omega arith)

pub pair_few : (rows : List (List ℕ)) → length rows < 2 → false ≡ is_pair (fields_of rows)
unfolding is_pair
pair_few [] h = refl
pair_few (r ∷ []) h = refl
pair_few (r ∷ q ∷ rows) h = absurd (omega arith)

pub pair_many : (rows : List (List ℕ)) → 3 ≤ length rows → false ≡ is_pair (fields_of rows)
unfolding is_pair
pair_many [] h = refl
pair_many (r ∷ []) h = refl
pair_many (r ∷ q ∷ []) h = absurd (omega arith)
pair_many (r ∷ q ∷ p ∷ rows) h = refl

-- N1, SB1Length and SB2Length
pub triple_few : (rows : List (List ℕ)) → length rows < 3 → false ≡ is_triple (fields_of rows)
unfolding is_triple
triple_few [] h = refl
triple_few (r ∷ []) h = refl
triple_few (r ∷ q ∷ []) h = refl
triple_few (r ∷ q ∷ p ∷ rows) h = absurd (omega arith)

pub triple_some : (rows : List (List ℕ)) {n s u : FieldRow} {x y z : Bool} (d : List ℕ) → 3 ≤ length rows
    → n ≡ field_of (get_or rows 0 d) → s ≡ field_of (get_or rows 1 d) → u ≡ field_of (get_or rows 2 d)
    → x ≡ is_count 14 n → y ≡ is_count 15 s → z ≡ is_count 16 u → (x && y && z) ≡ is_triple (fields_of rows)
unfolding is_triple
triple_some [] d h e f g a b c = absurd (omega arith)
triple_some (r ∷ []) d h e f g a b c = absurd (omega arith)
triple_some (r ∷ q ∷ []) d h e f g a b c = absurd (omega arith)
triple_some (r ∷ q ∷ p ∷ rows) d h e f g a b c = rw (a, b, c, e, f, g)

-- the sub-fields of a block row
module _ (s : Shape) where
  pub one_none : length s.subs.now ≡ 0 → true ≡ one_pass (shape_says s)
  unfolding one_pass field_pass
  one_none e = let n : s.subs.now ≡ [] = drop_of_length-le s.subs.now {i = 0} (omega arith) in sym (rw n)

  pub one_some : (length s.subs.now ≡ 0 → ⊥) → {y z : Bool} → y ≡ field_pass 0 0 s.highest (fields_of s.subs.now)
      → z ≡ is_pair (fields_of s.body.now) → (y && z) ≡ one_pass (shape_says s)
  unfolding one_pass
  one_some e b d = sym (rw (length-map, ne_eqb (length s.subs.now) 0 e, ← b, ← d))

  pub two_few : length s.subs.now < s.firsts → false ≡ two_pass (shape_says s)
  unfolding two_pass nest_ok
  two_few h =
      let first = field_pass 0 0 s.highest (take s.firsts (fields_of s.subs.now)) in
      let second = field_pass 0 0 s.highest (drop s.firsts (fields_of s.subs.now)) in
      sym (rw (length-map, lt-leb s.firsts (length s.subs.now) h) (and-false (first && second)))

  pub two_says : 0 < s.firsts → s.firsts ≤ length s.subs.now → {x y n m e : Bool} (d : List ℕ)
      → x ≡ field_pass 0 0 s.highest (fields_of (take s.firsts s.subs.now))
      → y ≡ field_pass 0 0 s.highest (fields_of (drop s.firsts s.subs.now))
      → n ≡ is_nested (Some (field_of (get_or s.subs.now (s.firsts - 1) d))) → m ≡ is_triple (fields_of s.body.now)
      → e ≡ every early (fields_of s.body.now) → (x && y && n && m && e) ≡ two_pass (shape_says s)
  unfolding two_pass nest_ok
  two_says l h {x} {y} {n} {m} {e} d p q a b c =
      let i : s.firsts - 1 < length s.subs.now = omega arith in
      sym (rw (length-map, le-leb s.firsts (length s.subs.now) h, fields_pick s.subs.now (s.firsts - 1) d i, take-map field_of s.firsts s.subs.now, drop-map field_of s.firsts s.subs.now, ← p, ← q, ← a, ← b, ← c)
      (sym (last_four x y n m e)))

-- the field rows of a block row
module _ (s : Shape) {x y : Bool} (body : x ≡ field_pass 14 0 s.highest (fields_of s.body.now)) where
  pub block_one : s.firsts ≡ 0 → y ≡ one_pass (shape_says s) → (x && y) ≡ block_pass (shape_says s)
  unfolding block_pass
  block_one e b = sym (rw (eq-eqb s.firsts 0 e, ← b, ← body))

  pub block_two : (s.firsts ≡ 0 → ⊥) → y ≡ two_pass (shape_says s) → (x && y) ≡ block_pass (shape_says s)
  unfolding block_pass
  block_two e b = sym (rw (ne_eqb s.firsts 0 e, ← b, ← body))

-- what a block row that passes its step says
pub step_says : (least used fields : ℕ) (r : Row) → row_step least used fields r ≡ true
    → (r.number ≤ 8191) × (r.start ≡ used) × (used + (r.bodies + r.subs) ≤ fields)
unfolding row_step
step_says least used fields r e =
    let number = leb r.number 8191 in
    let highest = leb r.highest 7 in
    let a = both (number && highest && leb least r.number && eqb r.start used) _ e in
    let b = both (number && highest && leb least r.number) _ a.0 in
    let c = both (number && highest) _ b.0 in
    let d = both number _ c.0 in
    (leb-true _ _ d.0, eqb-true _ _ b.1, leb-true _ _ a.1)

-- block rows
module _ (t : List ℕ) (i k least used fields : ℕ) (whole : Bool) (inv : whole ≡ row_pass t least used fields (tabulate (row_at t) i k)) where
  pub rows_done : k ≡ 0 → eqb used fields ≡ whole
  unfolding row_pass
  rows_done e = sym (inv ∙ rw (tab_none (row_at t) i k e))

  rows_by : 0 < k → whole ≡ (row_step least used fields (row_at t i) && block_pass (block_of t (row_at t i))
      && row_pass t ((row_at t i).number + 1) (used + ((row_at t i).bodies + (row_at t i).subs)) fields (tabulate (row_at t) (i + 1) (k - 1)))
  unfolding row_pass
  rows_by h = inv ∙ ap (row_pass t least used fields) (tab-more (row_at t) i k h)

  module _ (r : Row) (g : r ≡ row_at t i) (h : 0 < k) where
    pub rows_stop : row_step least used fields r ≡ false → false ≡ whole
    rows_stop e = sym (rows_by h ∙ rw (← g, e))

    module _ (e : row_step least used fields r ≡ true) where
      pub rows_block : block_pass (block_of t r) ≡ false → false ≡ whole
      rows_block b = sym (rows_by h ∙ rw (← g, e, b))

      pub rows_go : block_pass (block_of t r) ≡ true → (j l n m : ℕ) → j ≡ i + 1 → l ≡ k - 1 → n ≡ r.number + 1 → m ≡ used + (r.bodies + r.subs)
          → whole ≡ row_pass t n m fields (tabulate (row_at t) j l)
      rows_go b j l n m u v w x = rows_by h ∙ rw (← g, e, b, u, v, w, x)

-- the row of a number
abbrev pub numbered : ℕ → Row → Bool
numbered n r = eqb r.number n

module _ (t : List ℕ) (n i k : ℕ) (whole : Option Row) (inv : whole ≡ first_that (numbered n) (tabulate (row_at t) i k)) where
  pub find_done : k ≡ 0 → whole ≡ None
  unfolding first_that
  find_done e = inv ∙ rw (tab_none (row_at t) i k e)

  find_by : 0 < k → whole ≡ cond (numbered n (row_at t i)) (Some (row_at t i)) (first_that (numbered n) (tabulate (row_at t) (i + 1) (k - 1)))
  unfolding first_that
  find_by h = inv ∙ ap (first_that (numbered n)) (tab-more (row_at t) i k h)

  module _ (r : Row) (g : r ≡ row_at t i) (h : 0 < k) where
    pub find_stop : r.number ≡ n → whole ≡ Some r
    find_stop b = find_by h ∙ rw (← g, eq-eqb r.number n b)

    pub find_go : (r.number ≡ n → ⊥) → (j l : ℕ) → j ≡ i + 1 → l ≡ k - 1 → whole ≡ first_that (numbered n) (tabulate (row_at t) j l)
    find_go b j l u v = find_by h ∙ rw (← g, ne_eqb r.number n b, u, v)
