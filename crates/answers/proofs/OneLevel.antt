-- By a row of one level each call answers as before, and the rules are those of then.
-- Assumes nothing.
use mathlib.Core.Path.{◌≡◌, refl, sym, ap, ap₂, ◌∙◌}
use mathlib.Core.List.{List, [], ◌∷◌, map}
use mathlib.Core.Bool.{Bool, true, false, not, ◌&&◌, cond}
use Rattle.std.proofs.Common.{Option, None, Some}
use Prim.Native.Nat.{ℕ}
use lib.Dec.{ltb, eqb}
use borrow.Author.Tests.{eq-eqb, eqb-true}
use Rattle.wire.proofs.Tests.{both, both_left, both_right}
use Rattle.frame.specs.Frame.{whole_frame}
use Rattle.rows.specs.declared.FieldRow.{FieldRow}
use Rattle.rows.specs.declared.Row.{Row}
use Rattle.rows.specs.Places.{field_count}
use Rattle.table.specs.Lists.{every, neighbours, first_that, tabulate, pick}
use Rattle.table.specs.Rows.{BlockRow, Table, first_rows}
use Rattle.table.specs.Decode.{block_of, rows_of, decode}
use Rattle.table.specs.Rules.{file_ok, index_ok, used_ok, form_ok, offset_ok, fields_ok, shape_ok, block_ok, meaning_ok, table_ok}
use Rattle.table.specs.Lookup.{find_row}
use Rattle.table.proofs.Levels.{one_first, one_second}
use Rattle.value.specs.Said.{FieldSaid, field_refused}
use Rattle.walk.specs.declared.Span.{Span}
use Rattle.walk.specs.declared.Nest.{Nest}
use Rattle.walk.specs.Walk.{seconds}
use Rattle.block.specs.Block.{number_in, revision_in, body_fits, one_fits, subs_fit, one_span, alone, nest_of, sub_span, sub_count, Seen, refused_by, row, seen_row, seen, seen_sub_row, seen_sub}
use Rattle.record.specs.Calls.{field_or9, body_by, body_field, sub_slice, sub_by, sub_field, part_by, sub_block, place_by, sub_place, number_by, sub_block_refusal}
use Rattle.epoch.specs.Second.{second_by, second_field}
use Rattle.epoch.specs.Ranges.{range_by, range_field, range2_by, range2_field}
use Rattle.answers.specs.Before.{sub_span_before, subs_fit_before, seen_row_before, seen_before, seen_sub_before, body_field_before, sub_by_before, sub_field_before, part_by_before, sub_block_before, place_by_before, sub_place_before, sub_block_refusal_before, zero_ok_before, form_ok_before, block_ok_before, meaning_ok_before, table_ok_before}
use Rattle.answers.specs.OneLevel.{OneLevel, or9, AsBefore, OneLevelAsBefore}

-- a row of one level
module _ (b : List ℕ) (r : BlockRow) (one : r.firsts ≡ 0) where
  fits : subs_fit b r ≡ subs_fit_before b r
  unfolding subs_fit one_fits subs_fit_before
  fits = rw (eq-eqb r.firsts 0 one)

  nest : (k : ℕ) → nest_of r b k ≡ alone (one_span b k)
  unfolding nest_of
  nest k = rw (eq-eqb r.firsts 0 one)

  stands : (k : ℕ) → sub_span r b k ≡ sub_span_before r b k
  stands k = ap (λ (n : Nest). n.first) (nest k)

  no_epoch : (x : Bool) → (x && not (eqb r.firsts 0)) ≡ false
  no_epoch true = rw (eq-eqb r.firsts 0 one)
  no_epoch false = refl

-- what the block came to: a refusal, or a row of one level
abbrev One : Seen → Type 0
One (refused_by n) = Unit
One (row r) = r.firsts ≡ 0

one_if : (x : Bool) (s t : Seen) → One s → One t → One (cond x s t)
one_if true s t p q = p
one_if false s t p q = q

-- C16: what a new call answers then
abbrev refusal : Seen → FieldSaid
refusal s = field_refused (or9 (number_by s))

module _ (b : List ℕ) where
  found_one : (o : Option BlockRow) → ((r : BlockRow) → o ≡ Some r → r.firsts ≡ 0) → One (seen_row b o)
  unfolding seen_row
  found_one None h = tt
  found_one (Some r) h = one_if (body_fits b r) _ _ (one_if (subs_fit b r) _ _ (h r refl) tt) tt

  found_same : (o : Option BlockRow) → ((r : BlockRow) → o ≡ Some r → r.firsts ≡ 0) → seen_row b o ≡ seen_row_before b o
  unfolding seen_row seen_row_before
  found_same None h = refl
  found_same (Some r) h = rw (fits b r (h r refl))

  sub_one : (k : ℕ) (s : Seen) → One s → One (seen_sub_row b k s)
  unfolding seen_sub_row
  sub_one k (refused_by n) p = tt
  sub_one k (row r) p = one_if (ltb k (sub_count b r)) (row r) (refused_by 9) p tt

  -- the calls, by that
  sub_by_lem : (k j : ℕ) (s : Seen) → One s → sub_by b k j s ≡ sub_by_before b k j s
  sub_by_lem k j (refused_by n) p = refl
  sub_by_lem k j (row r) p =
      ap (λ (z : Span). field_or9 (revision_in b) (sub_slice b z) (pick (first_rows r) j)) (stands b r p k)
      ∙ ap (λ (fs : List FieldRow). field_or9 (revision_in b) (sub_slice b (sub_span_before r b k)) (pick fs j)) (one_first r p)

  part_by_lem : (k : ℕ) (s : Seen) → One s → part_by b k s ≡ part_by_before b k s
  part_by_lem k (refused_by n) p = refl
  part_by_lem k (row r) p = ap (sub_slice b) (stands b r p k)

  place_by_lem : (k : ℕ) (s : Seen) → One s → place_by b k s ≡ place_by_before b k s
  place_by_lem k (refused_by n) p = refl
  place_by_lem k (row r) p = stands b r p k

  none_nested : (k m : ℕ) → pick (seconds (alone (one_span b k))) m ≡ None
  unfolding seconds tabulate pick
  none_nested k m = refl

  second_by_lem : (k m j : ℕ) (s : Seen) → One s → second_by b k m j s ≡ refusal s
  second_by_lem k m j (refused_by n) p = refl
  second_by_lem k m j (row r) p = rw (nest b r p k, none_nested k m)

  range_by_lem : (k : ℕ) (s : Seen) → One s → range_by b k s ≡ refusal s
  range_by_lem k (refused_by n) p = refl
  range_by_lem k (row r) p = rw (no_epoch b r p (eqb (number_in b) 4027))

  range2_by_lem : (k m : ℕ) (s : Seen) → One s → range2_by b k m s ≡ refusal s
  range2_by_lem k m (refused_by n) p = refl
  range2_by_lem k m (row r) p = rw (no_epoch b r p (eqb (number_in b) 4027))

module _ (tab : Table) (b : List ℕ) (h : OneLevel tab b) where
  seen_one : One (seen tab b)
  unfolding seen
  seen_one = one_if (whole_frame b) _ _ (found_one b _ h) tt

  seen_same : seen tab b ≡ seen_before tab b
  unfolding seen seen_before
  seen_same = rw (found_same b _ h)

  module _ (k : ℕ) where
    sub_seen_one : One (seen_sub tab b k)
    unfolding seen_sub
    sub_seen_one = sub_one b k _ seen_one

    sub_same : seen_sub tab b k ≡ seen_sub_before tab b k
    unfolding seen_sub seen_sub_before
    sub_same = ap (seen_sub_row b k) seen_same

    through : {A : Type 0} (f g : Seen → A) → ((s : Seen) → One s → f s ≡ g s) → f (seen_sub tab b k) ≡ g (seen_sub_before tab b k)
    through f g e = e (seen_sub tab b k) sub_seen_one ∙ ap g sub_same

  as_before : AsBefore tab b
  unfolding body_field body_field_before sub_field sub_field_before sub_block sub_block_before sub_place sub_place_before sub_block_refusal sub_block_refusal_before second_field range_field range2_field
  as_before =
      record {
        body = λ i. ap (body_by b i) seen_same;
        sub = λ k j. through k (sub_by b k j) (sub_by_before b k j) (sub_by_lem b k j);
        part = λ k. through k (part_by b k) (part_by_before b k) (part_by_lem b k);
        place = λ k. through k (place_by b k) (place_by_before b k) (place_by_lem b k);
        twin = λ k. ap number_by (sub_same k);
        second = λ k m j. through k (second_by b k m j) refusal (second_by_lem b k m j);
        range = λ k. through k (range_by b k) refusal (range_by_lem b k);
        range2 = λ k m. through k (range2_by b k m) refusal (range2_by_lem b k m);
      }

-- the rules
and-true : (x : Bool) → (x && true) ≡ x
and-true true = refl
and-true false = refl

no_fields : (highest : ℕ) → fields_ok highest [] ≡ true
unfolding fields_ok neighbours every
no_fields highest = refl

rules-same : (r : BlockRow) → r.firsts ≡ 0 → block_ok r ≡ block_ok_before r
unfolding block_ok shape_ok block_ok_before
rules-same r one =
    rw (one_first r one, one_second r one, no_fields r.highest, eq-eqb r.firsts 0 one, and-true (every offset_ok r.body && fields_ok r.highest r.body && fields_ok r.highest r.subs))

this_or : (x : Bool) (s : BlockRow) (o : Option BlockRow) (r : BlockRow) → s.firsts ≡ 0 → (o ≡ Some r → r.firsts ≡ 0) → cond x (Some s) o ≡ Some r
    → r.firsts ≡ 0
this_or true s o r p q h = let e : s ≡ r = cc in sym (ap (λ (y : BlockRow). y.firsts) e) ∙ p
this_or false s o r p q h = q h

module _ (t : List ℕ) where
  block_one : (r : Row) → zero_ok_before r ≡ true → (block_of t r).firsts ≡ 0
  unfolding block_of
  block_one r e = eqb-true r.firsts 0 e

  blocks-same : (rs : List Row) → every zero_ok_before rs ≡ true → every block_ok (map (block_of t) rs) ≡ every block_ok_before (map (block_of t) rs)
  unfolding every
  blocks-same [] e = refl
  blocks-same (r ∷ rs) e =
      let p = both (zero_ok_before r) (every zero_ok_before rs) e in
      ap₂ (λ (x y : Bool). x && y) (rules-same (block_of t r) (block_one r p.0)) (blocks-same rs p.1)

  first_one : (p : BlockRow → Bool) (rs : List Row) → every zero_ok_before rs ≡ true → (r : BlockRow) → first_that p (map (block_of t) rs) ≡ Some r → r.firsts ≡ 0
  unfolding every first_that
  first_one p [] e r h = absurd cc
  first_one p (x ∷ xs) e r h =
      let d = both (zero_ok_before x) (every zero_ok_before xs) e in
      this_or (p (block_of t x)) (block_of t x) _ r (block_one x d.0) (first_one p xs d.1 r) h

  module _ (zeros : every zero_ok_before (rows_of t) ≡ true) where
    one_found : (b : List ℕ) → OneLevel (decode t) b
    unfolding find_row decode
    one_found b = first_one _ (rows_of t) zeros

    form_same : form_ok t ≡ form_ok_before t
    unfolding form_ok form_ok_before
    form_same = rw (zeros, and-true (file_ok t))

    meaning_same : meaning_ok (decode t) ≡ meaning_ok_before (decode t)
    unfolding meaning_ok meaning_ok_before decode
    meaning_same = rw (blocks-same (rows_of t) zeros)

    tables_same : table_ok t ≡ table_ok_before t
    unfolding table_ok table_ok_before
    tables_same = ap₂ (λ (x y : Bool). x && y) form_same meaning_same

  -- a table that was valid has zeros there
  zeros_of : table_ok_before t ≡ true → every zero_ok_before (rows_of t) ≡ true
  unfolding table_ok_before form_ok_before
  zeros_of v =
      let form = both_left _ (meaning_ok_before (decode t)) v in
      let index = both_left _ (used_ok (field_count t) (rows_of t)) form in
      both_right (file_ok t) _ (both_left _ (index_ok 0 (rows_of t)) index)

pub one_level_lem : OneLevelAsBefore
one_level_lem =
    record {
      answers = as_before;
      rules = rules-same;
      tables = tables_same;
      valid = λ t v. tables_same t (zeros_of t v) ∙ v;
      read = λ t b v. as_before (decode t) b (one_found t (zeros_of t v) b);
    }
