-- The one pass over the rows is the rules: `block_pass` is `block_ok`, and `row_pass` the rules on block rows with `block_ok` of every block.
-- Assumes nothing.
use mathlib.Core.Bool.{Bool, true, false, ◌&&◌, cond, and_assoc, and-true}
use mathlib.Core.List.{List, [], ◌∷◌, map}
use mathlib.Core.Path.{◌≡◌, refl, sym, ap, ◌∙◌}
use Prim.Native.Nat.{ℕ, ◌+◌, ◌≤◌}
use native.Mathlib.Nat.{zero-add, add-zero}
use native.Mathlib.Numerals.{add-one}
use native.Mathlib.Omega.{arith}
use lib.Dec.{ltb, leb, eqb, leb-zero}
use lib.ListN.{take, drop}
use borrow.Author.Tests.{leb-true, eqb-true, le-leb}
use Rattle.rows.specs.declared.FieldRow.{FieldRow}
use Rattle.rows.specs.declared.Row.{Row}
use Rattle.table.specs.Lists.{every, chain, neighbours}
use Rattle.table.specs.Rows.{BlockRow, ends, one_level, first_rows, second_rows}
use Rattle.table.specs.Decode.{block_of}
use Rattle.table.specs.Rules.{index_ok, used_fields, used_ok, number_ok, rising_ok, highest_ok, offset_ok, apart, steady, first_ok, type_ok, mark_ok, fields_ok, pair_ok, nest_ok, shape_ok, block_ok}
use Rattle.table.specs.Code.{field_step, field_pass, one_pass, two_pass, block_pass, row_step, row_pass}
use Rattle.table.proofs.Bools.{implied, zip5, zip6, sorted6, behind, behind_true}
use Rattle.table.proofs.Lists.{starts, chain_starts, neighbours_starts, starts_ext, every_map, neighbours_map}
use Rattle.wire.proofs.Tests.{both, both_true}

-- Field rows.

abbrev from : ℕ → FieldRow → Bool
from low f = leb low f.offset

abbrev since : ℕ → FieldRow → Bool
since rev f = leb rev f.first

field_fused : (low rev top : ℕ) (fs : List FieldRow)
    → field_pass low rev top fs ≡ (starts (from low) apart fs && starts (since rev) steady fs && every (first_ok top) fs && every type_ok fs && every mark_ok fs)
unfolding field_pass field_step starts every
field_fused low rev top [] = refl
field_fused low rev top (f ∷ fs) =
    rw (field_fused (ends f) f.first top fs, ← chain_starts apart f fs, ← chain_starts steady f fs)
    (zip5 (from low f) (chain apart f fs) (since rev f) (chain steady f fs) (first_ok top f) (every (first_ok top) fs) (type_ok f) (every type_ok fs)
    (mark_ok f) (every mark_ok fs))

-- fields that keep apart from one that ends past `low` all start past it
above : (low : ℕ) (f : FieldRow) (fs : List FieldRow) → low ≤ ends f → chain apart f fs ≡ true → every (from low) fs ≡ true
unfolding chain every
above low f [] h e = refl
above low f (g ∷ gs) h e =
    let a = both (apart f g) _ e in
    let n : ends f ≤ g.offset = leb-true _ _ a.0 in
    let m : low ≤ g.offset = omega arith in
    both_true (le-leb low g.offset m) (above low g gs (omega arith) a.1)

-- so it is enough that the first one does
all_from : (low : ℕ) (fs : List FieldRow) → (every (from low) fs && neighbours apart fs) ≡ starts (from low) apart fs
unfolding every neighbours starts
all_from low [] = refl
all_from low (f ∷ fs) =
    and_assoc (from low f) (every (from low) fs) (chain apart f fs) ∙ tail (from low f) refl where
      tail : (b : Bool) → from low f ≡ b → (b && (every (from low) fs && chain apart f fs)) ≡ (b && chain apart f fs)
      tail false e = refl
      tail true e =
          let m : low ≤ f.offset = leb-true _ _ e in
          let l : low ≤ ends f = omega arith in
          implied (every (from low) fs) (chain apart f fs) (above low f fs l)

module _ (top : ℕ) (fs : List FieldRow) where
  regroup : (a b c d e : Bool) → (a && b && c && d && e) ≡ (a && (b && c && d && e))
  regroup true b c d e = refl
  regroup false b c d e = refl

  steady_zero : neighbours steady fs ≡ starts (since 0) steady fs
  steady_zero = neighbours_starts steady (since 0) (λ f. leb-zero f.first) fs

  pub subs_are : fields_ok top fs ≡ field_pass 0 0 top fs
  unfolding fields_ok
  subs_are = sym (field_fused 0 0 top fs ∙ sym (rw (neighbours_starts apart (from 0) (λ f. leb-zero f.offset) fs, steady_zero)))

  pub body_is : (every offset_ok fs && fields_ok top fs) ≡ field_pass 14 0 top fs
  unfolding fields_ok
  body_is =
      let a = neighbours apart fs in
      let b = neighbours steady fs in
      let c = every (first_ok top) fs in
      let d = every type_ok fs in
      let e = every mark_ok fs in
      ap (λ (x : Bool). every offset_ok fs && x) (regroup a b c d e) ∙ sym (and_assoc (every offset_ok fs) a (b && c && d && e))
      ∙ ap (λ (x : Bool). x && (b && c && d && e)) (all_from 14 fs) ∙ sym (regroup (starts (from 14) apart fs) b c d e)
      ∙ rw steady_zero (sym (field_fused 14 0 top fs))

-- without rows there is nothing to break
no_rows : (top : ℕ) → fields_ok top [] ≡ true
unfolding fields_ok neighbours every
no_rows top = refl

module _ (b : BlockRow) where
  -- the rules on the rows of each level, by whether there is one
  levels_are : (one x : Bool)
      → (x && fields_ok b.highest (cond one b.subs (take b.firsts b.subs)) && fields_ok b.highest (cond one [] (drop b.firsts b.subs)) && cond one (pair_ok b) (nest_ok b))
      ≡ (x && cond one (one_pass b) (two_pass b))
  unfolding one_pass two_pass
  levels_are true x =
      rw (no_rows b.highest, subs_are b.highest b.subs) (behind_true x (field_pass 0 0 b.highest b.subs) (pair_ok b))
  levels_are false x =
      rw (subs_are b.highest (take b.firsts b.subs), subs_are b.highest (drop b.firsts b.subs))
      (behind x (field_pass 0 0 b.highest (take b.firsts b.subs)) (field_pass 0 0 b.highest (drop b.firsts b.subs)) (nest_ok b))

  pub block_is_lem : block_ok b ≡ block_pass b
  unfolding block_ok block_pass first_rows second_rows shape_ok
  block_is_lem = rw (body_is b.highest b.body) (levels_are (one_level b) (field_pass 14 0 b.highest b.body))

-- Block rows.

abbrev at_least : ℕ → Row → Bool
at_least least r = leb least r.number

abbrev number_row : Row → Bool
number_row r = leb r.number 8191

abbrev highest_row : Row → Bool
highest_row r = leb r.highest 7

abbrev below_row : Row → Row → Bool
below_row r s = ltb r.number s.number

rising_next : (r : Row) (rs : List Row) → starts (at_least (r.number + 1)) below_row rs ≡ chain below_row r rs
rising_next r rs = starts_ext below_row (at_least (r.number + 1)) (below_row r) (λ s. rw add-one) rs ∙ sym (chain_starts below_row r rs)

module _ (t : List ℕ) where
  abbrev passes : Row → Bool
  passes r = block_pass (block_of t r)

  row_fused : (least used fields : ℕ) (rs : List Row)
      → row_pass t least used fields rs
      ≡ (every number_row rs && every highest_row rs && starts (at_least least) below_row rs && index_ok used rs && eqb (used + used_fields rs) fields && every passes rs)
  unfolding row_pass row_step starts every index_ok used_fields
  row_fused least used fields [] = rw (add-zero used, and-true (eqb used fields))
  row_fused least used fields (r ∷ rs) =
      let more = r.bodies + r.subs in
      let n : used + (more + used_fields rs) ≡ used + more + used_fields rs = omega arith in
      let fit : (eqb (used + more + used_fields rs) fields ≡ true → leb (used + more) fields ≡ true) =
      λ e. let q = eqb-true (used + more + used_fields rs) fields e in le-leb (used + more) fields (omega arith) in
      rw (row_fused (r.number + 1) (used + more) fields rs, rising_next r rs, n)
      (zip6 (number_row r) (every number_row rs) (highest_row r) (every highest_row rs) (at_least least r) (chain below_row r rs)
      (eqb r.start used) (index_ok (used + more) rs) (leb (used + more) fields) (eqb (used + more + used_fields rs) fields) (passes r) (every passes rs)
      ∙ rw (implied (leb (used + more) fields) (eqb (used + more + used_fields rs) fields) fit))

  every_ext : (p q : Row → Bool) → ((r : Row) → p r ≡ q r) → (rs : List Row) → every p rs ≡ every q rs
  unfolding every
  every_ext p q h [] = refl
  every_ext p q h (r ∷ rs) = rw (h r, every_ext p q h rs)

  -- the rules on decoded rows, as they say it of rows as they stand
  module _ (rs : List Row) where
    abbrev blocks : List BlockRow
    blocks = map (block_of t) rs

    numbers_are : every number_ok blocks ≡ every number_row rs
    unfolding block_of
    numbers_are = every_map (block_of t) number_ok rs

    rising_is : rising_ok blocks ≡ neighbours below_row rs
    unfolding rising_ok block_of
    rising_is = neighbours_map (block_of t) (λ (b c : BlockRow). ltb b.number c.number) rs

    highest_are : every highest_ok blocks ≡ every highest_row rs
    unfolding block_of
    highest_are = every_map (block_of t) highest_ok rs

    blocks_are : every block_ok blocks ≡ every passes rs
    blocks_are = every_map (block_of t) block_ok rs ∙ every_ext (λ (r : Row). block_ok (block_of t r)) passes (λ r. block_is_lem (block_of t r)) rs

    pub rows_are : (fields : ℕ)
        → (index_ok 0 rs && used_ok fields rs && (every number_ok blocks && rising_ok blocks && every highest_ok blocks && every block_ok blocks))
        ≡ row_pass t 0 0 fields rs
    rows_are fields =
        rw (numbers_are, rising_is, highest_are, blocks_are)
        (sym (row_fused 0 0 fields rs ∙ rw (zero-add (used_fields rs), ← neighbours_starts below_row (at_least 0) (λ r. leb-zero r.number) rs)
        (sorted6 (every number_row rs) (every highest_row rs) (neighbours below_row rs) (index_ok 0 rs) (eqb (used_fields rs) fields) (every passes rs))))
