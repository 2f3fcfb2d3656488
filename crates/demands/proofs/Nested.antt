-- The calls on blocks of two levels: their tests on the block's row, and 9's condition (rules R9, T21, V11, V12).
-- Assumes nothing.
use Prim.Native.Nat.{ℕ, ◌≤◌, ◌<◌}
use native.Mathlib.Omega.{arith}
use mathlib.Core.Path.{◌≡◌, refl, sym, ap, ◌∙◌, subst}
use mathlib.Core.Bool.{Bool, true, false, not, ◌&&◌, ◌||◌, cond}
use mathlib.Core.List.{List}
use mathlib.Core.Logic.{◌⊎◌, inl, inr, ⊎_elim}
use Rattle.std.proofs.Common.{Option, None, Some}
use lib.ListN.{length}
use lib.Dec.{ltb, eqb}
use borrow.Author.Tests.{ltb-true, eqb-true, eqb-false, not-true, not-false, ne_eqb, lt-ltb, le-ltb}
use Rattle.wire.proofs.Tests.{lt?, both_left, both_right, never}
use Rattle.kinds.specs.Types.{u1, u2}
use Rattle.rows.specs.declared.FieldRow.{FieldRow}
use Rattle.table.specs.Lists.{pick, is_some}
use Rattle.table.specs.Rows.{BlockRow, one_level, first_rows, second_rows, nested_row}
use Rattle.table.specs.Rules.{block_ok}
use Rattle.table.proofs.Levels.{two_few}
use Rattle.value.specs.Said.{FieldSaid, unsigned, signed, single, double, do_not_use, not_in_revision, field_refused}
use Rattle.walk.specs.declared.Nest.{Nest}
use Rattle.walk.specs.Walk.{nest_at, second_at, seconds, nest_or}
use Rattle.block.specs.Block.{number_in, revision_in, offset_of, nest_of, sub_count, Seen, refused_by, row, seen_sub_row}
use Rattle.record.specs.Calls.{field_said, sub_slice}
use Rattle.pseudorange.specs.Range.{first_range, no_first, second_range, no_offset, range_said, range2_said}
use Rattle.epoch.specs.Second.{in_second, second_by}
use Rattle.epoch.specs.Ranges.{unsigned_of, unsigned_at, pair_at, first_pair, second_pair, is_epoch, range_by, range2_by}
use Rattle.std.specs.Option.{option_zip}
use Rattle.epoch.proofs.Seconds.{second_in, second_out}
use Rattle.reader.specs.Refusals.{need}
use Rattle.demands.specs.World.{field_refusal}
use Rattle.demands.specs.Refusals.{block_revision, N, start_of, N2, NoField, NoSecond, NoNumber, first_bytes, second_bytes, NoRange, NoRange2}
use Rattle.demands.proofs.Exact.{Tells, retell, both}
use Rattle.demands.proofs.Listed.{nothing_there}
use Rattle.demands.proofs.Numbers.{cond_none, nine, then_of}
use Rattle.demands.proofs.Fits.{below, field_tells}
use Rattle.demands.proofs.Walked.{stands_at}

-- ---- two tests, of which the second may use the first

next_holds : (a b : Bool) {P Q : Type 0} → Tells a P → (a ≡ true → Tells b Q) → (a && b) ≡ false → P ⊎ Q
next_holds true b t u e = inr ((u refl).holds e)
next_holds false b t u e = inl (t.holds refl)

next : (a b : Bool) {P Q : Type 0} → Tells a P → (a ≡ true → Tells b Q) → Tells (a && b) (P ⊎ Q)
next a b t u =
    record {
      fine = λ e g. ⊎_elim (t.fine (both_left a b e)) ((u (both_left a b e)).fine (both_right a b e)) g;
      holds = next_holds a b t u;
    }

-- ---- a number in a field

module _ (b s : List ℕ) (rows : List FieldRow) (i kind : ℕ) where
  number_fine : (f : FieldRow) → pick rows i ≡ Some f → f.kind ≡ kind → (x : FieldSaid) → field_said (block_revision b) s f ≡ x
      → is_some (unsigned_of x) ≡ true → NoNumber b s rows i kind → ⊥
  number_fine f p k (unsigned n) e t g = g f p k n e
  number_fine f p k (signed z) e t g = never t refl
  number_fine f p k (single z) e t g = never t refl
  number_fine f p k (double z) e t g = never t refl
  number_fine f p k do_not_use e t g = never t refl
  number_fine f p k not_in_revision e t g = never t refl
  number_fine f p k (field_refused n) e t g = never t refl

  number_holds : (f : FieldRow) → pick rows i ≡ Some f → is_some (unsigned_of (field_said (block_revision b) s f)) ≡ false → NoNumber b s rows i kind
  number_holds f p t g q k n e =
      let z : Some f ≡ Some g = sym p ∙ q in
      let y : f ≡ g = cc in
      never (ap (λ (x : FieldSaid). is_some (unsigned_of x)) e) (subst (λ (x : FieldRow). is_some (unsigned_of (field_said (block_revision b) s x)) ≡ false) y t)

  kind_tells : (f : FieldRow) → pick rows i ≡ Some f → (c : Bool) → eqb f.kind kind ≡ c
      → Tells (is_some (cond c (unsigned_of (field_said (block_revision b) s f)) None)) (NoNumber b s rows i kind)
  kind_tells f p true e =
      record { fine = λ t g. number_fine f p (eqb-true f.kind kind e) (field_said (block_revision b) s f) refl t g; holds = number_holds f p }
  kind_tells f p false e =
      record {
        fine = λ t g. never t refl;
        holds = λ _ g q k n h.
            let z : Some f ≡ Some g = sym p ∙ q in
            let y : f ≡ g = cc in
            eqb-false f.kind kind e (ap (λ (x : FieldRow). x.kind) y ∙ k);
      }

  number_by : (o : Option FieldRow) → pick rows i ≡ o → Tells (is_some (unsigned_at (revision_in b) s kind o)) (NoNumber b s rows i kind)
  number_by None p = record { fine = λ t g. never t refl; holds = λ _ f q k n h. nothing_there (sym p ∙ q) }
  number_by (Some f) p = kind_tells f p (eqb f.kind kind) refl

  number_tells : Tells (is_some (unsigned_at (revision_in b) s kind (pick rows i))) (NoNumber b s rows i kind)
  number_tells = number_by (pick rows i) refl

some_both : (x y : Option ℕ) → is_some (option_zip x y) ≡ (is_some x && is_some y)
some_both None y = refl
some_both (Some x) None = refl
some_both (Some x) (Some y) = refl

pair_tells : (b s : List ℕ) (rows : List FieldRow) (j kind : ℕ)
    → Tells (is_some (pair_at (revision_in b) s j kind rows)) (NoNumber b s rows 3 1 ⊎ NoNumber b s rows j kind)
unfolding pair_at
pair_tells b s rows j kind =
    subst (λ (c : Bool). Tells c (NoNumber b s rows 3 1 ⊎ NoNumber b s rows j kind)) (sym (some_both (unsigned_at (revision_in b) s u1 (pick rows 3)) (unsigned_at (revision_in b) s kind (pick rows j))))
    (both (number_tells b s rows 3 1) (number_tells b s rows j kind))

-- ---- where a sub-block of two levels stands

level_tells : (r : BlockRow) → Tells (not (one_level r)) (r.firsts ≡ 0)
level_tells r =
    record {
      fine = λ e z. eqb-false r.firsts 0 (not-true (one_level r) e) z;
      holds = λ e. eqb-true r.firsts 0 (not-false (one_level r) e);
    }

module _ (r : BlockRow) (ok : block_ok r ≡ true) (b : List ℕ) (k : ℕ) (two : not (one_level r) ≡ true) where
  all_there : sub_count b r ≡ N b
  all_there =
      let f = two_few r ok ((level_tells r).fine two) in
      let g = (level_tells r).fine two in
      rw (ne_eqb (length r.subs) 0 (λ z. g (omega (arith, f, z))))

  count_tells : Tells (ltb k (sub_count b r)) (N b ≤ k)
  count_tells = rw all_there (below k (N b))

  module _ (there : ltb k (sub_count b r) ≡ true) where
    nest_is : nest_of r b k ≡ nest_at (offset_of (nested_row r)) b (start_of r b k)
    unfolding nest_of
    nest_is =
        let l : k < N b = ltb-true k (N b) (rw all_there at there) in
        rw (not-true (one_level r) two) (ap nest_or (stands_at r b k l))

    nested_tells : (m : ℕ) → Tells (ltb m (nest_of r b k).count) (N2 r b k ≤ m)
    nested_tells m = rw nest_is (below m (N2 r b k))

    first_tells : Tells (is_some (first_pair r b (nest_of r b k))) (NoNumber b (first_bytes r b k) (first_rows r) 3 1 ⊎ NoNumber b (first_bytes r b k) (first_rows r) 4 3)
    unfolding sub_slice
    first_tells = rw nest_is (pair_tells b (first_bytes r b k) (first_rows r) 4 3)

    second_tells : (m : ℕ)
        → Tells (is_some (pair_at (revision_in b) (sub_slice b (second_at (nest_of r b k) m)) 6 u2 (second_rows r)))
        (NoNumber b (second_bytes r b k m) (second_rows r) 3 1 ⊎ NoNumber b (second_bytes r b k m) (second_rows r) 6 2)
    unfolding sub_slice
    second_tells m = rw nest_is (pair_tells b (second_bytes r b k m) (second_rows r) 6 2)

-- ---- Sub2

abbrev pub second_test : List ℕ → ℕ → ℕ → ℕ → BlockRow → Bool
second_test b k m j r = ltb k (sub_count b r) && ltb m (nest_of r b k).count && ltb j (length (second_rows r))

one_none : (b : List ℕ) (k : ℕ) (r : BlockRow) → one_level r ≡ true → (nest_of r b k).count ≡ 0
unfolding nest_of
one_none b k r e = rw e

there_by : (b : List ℕ) (k m : ℕ) (r : BlockRow) → block_ok r ≡ true → (c : Bool) → one_level r ≡ c
    → Tells (ltb k (sub_count b r) && ltb m (nest_of r b k).count) (NoSecond b k m r)
there_by b k m r ok true e =
    record {
      fine = λ t g. let l = ltb-true m _ (both_right (ltb k (sub_count b r)) _ t) in omega (arith, l, one_none b k r e);
      holds = λ _. inl (eqb-true r.firsts 0 e);
    }
there_by b k m r ok false e =
    let two : not (one_level r) ≡ true = rw e in
    retell inr (⊎_elim (λ z. absurd ((level_tells r).fine two z)) (λ p. p))
    (next (ltb k (sub_count b r)) (ltb m (nest_of r b k).count) (count_tells r ok b k two) (λ t. nested_tells r ok b k two t m))

pub sub2_tells : (b : List ℕ) (k m j : ℕ) (r : BlockRow) → block_ok r ≡ true → Tells (second_test b k m j r) (NoSecond b k m r ⊎ NoField (second_rows r) j)
sub2_tells b k m j r ok = both (there_by b k m r ok (one_level r) refl) (field_tells (second_rows r) j)

in_second_lem : (b : List ℕ) (r : BlockRow) (j : ℕ) (n : Nest) (m : ℕ)
    → field_refusal (in_second b r j (pick (seconds n) m)) ≡ need (ltb m n.count && ltb j (length (second_rows r))) 9 None
in_second_lem b r j n m =
    lt? m n.count
    (λ l. rw (second_in n m l, lt-ltb m n.count l) (nine (revision_in b) (sub_slice b (second_at n m)) (second_rows r) j))
    (λ l. rw (second_out n m l, le-ltb m n.count l))

sub2_by : (c : Bool) (b : List ℕ) (k m j : ℕ) (r : BlockRow)
    → field_refusal (second_by b k m j (cond c (row r) (refused_by 9))) ≡ need (c && ltb m (nest_of r b k).count && ltb j (length (second_rows r))) 9 None
sub2_by true b k m j r = in_second_lem b r j (nest_of r b k) m
sub2_by false b k m j r = refl

pub sub2_row : (b : List ℕ) (k m j : ℕ) (x : Seen) → field_refusal (second_by b k m j (seen_sub_row b k x)) ≡ then_of x (λ r. need (second_test b k m j r) 9 None)
unfolding seen_sub_row
sub2_row b k m j (refused_by n) = refl
sub2_row b k m j (row r) = sub2_by (ltb k (sub_count b r)) b k m j r

-- ---- Range

abbrev pub range_test : List ℕ → ℕ → BlockRow → Bool
range_test b k r = eqb (number_in b) 4027 && (not (one_level r) && (ltb k (sub_count b r) && is_some (first_pair r b (nest_of r b k))))

equal_tells : (m n : ℕ) → Tells (eqb m n) (m ≡ n → ⊥)
equal_tells m n = record { fine = λ e g. g (eqb-true m n e); holds = λ e. eqb-false m n e }

pub range_tells : (b : List ℕ) (k : ℕ) (r : BlockRow) → block_ok r ≡ true → Tells (range_test b k r) (NoRange b k r)
range_tells b k r ok =
    both (equal_tells (number_in b) 4027)
    (next (not (one_level r)) (ltb k (sub_count b r) && is_some (first_pair r b (nest_of r b k))) (level_tells r)
    (λ two. next (ltb k (sub_count b r)) (is_some (first_pair r b (nest_of r b k))) (count_tells r ok b k two) (first_tells r ok b k two)))

first_none : (o : Option (ℕ × ℕ)) → field_refusal (range_said o) ≡ need (is_some o) 9 None
first_none None = refl
first_none (Some p) = cond_none (no_first p.0 p.1) do_not_use _ refl refl

-- the same tests in another order
four : (a b c d : Bool) → need (a && (b && (c && d))) 9 None ≡ need c 9 (need (a && b) 9 (need d 9 None))
four true true true d = refl
four true true false d = refl
four true false true d = refl
four true false false d = refl
four false b true d = refl
four false b false d = refl

said_need : (c : Bool) (a : FieldSaid) → field_refusal (cond c a (field_refused 9)) ≡ need c 9 (field_refusal a)
said_need true a = refl
said_need false a = refl

range_by_lem : (c : Bool) (b : List ℕ) (k : ℕ) (r : BlockRow)
    → field_refusal (range_by b k (cond c (row r) (refused_by 9))) ≡ need c 9 (need (is_epoch b r) 9 (need (is_some (first_pair r b (nest_of r b k))) 9 None))
range_by_lem true b k r = said_need (is_epoch b r) _ ∙ ap (need (is_epoch b r) 9) (first_none (first_pair r b (nest_of r b k)))
range_by_lem false b k r = refl

pub range_row : (b : List ℕ) (k : ℕ) (x : Seen) → field_refusal (range_by b k (seen_sub_row b k x)) ≡ then_of x (λ r. need (range_test b k r) 9 None)
unfolding seen_sub_row
range_row b k (refused_by n) = refl
range_row b k (row r) =
    range_by_lem (ltb k (sub_count b r)) b k r ∙ sym (four (eqb (number_in b) 4027) (not (one_level r)) (ltb k (sub_count b r)) (is_some (first_pair r b (nest_of r b k))))

-- ---- Range2

abbrev pub range2_test : List ℕ → ℕ → ℕ → BlockRow → Bool
range2_test b k m r = range_test b k r && is_some (second_pair r b (pick (seconds (nest_of r b k)) m))

some_second : (r : BlockRow) (b : List ℕ) (n : Nest) (m : ℕ)
    → is_some (second_pair r b (pick (seconds n) m)) ≡ (ltb m n.count && is_some (pair_at (revision_in b) (sub_slice b (second_at n m)) 6 u2 (second_rows r)))
some_second r b n m =
    lt? m n.count
    (λ l. rw (second_in n m l, lt-ltb m n.count l))
    (λ l. rw (second_out n m l, le-ltb m n.count l))

pub range2_tells : (b : List ℕ) (k m : ℕ) (r : BlockRow) → block_ok r ≡ true → Tells (range2_test b k m r) (NoRange2 b k m r)
range2_tells b k m r ok =
    next (range_test b k r) _ (range_tells b k r ok)
    (λ e.
    let u = both_right (eqb (number_in b) 4027) _ e in
    let two = both_left (not (one_level r)) _ u in
    let there = both_left (ltb k (sub_count b r)) _ (both_right (not (one_level r)) _ u) in
    rw (some_second r b (nest_of r b k) m)
    (next (ltb m (nest_of r b k).count) _ (nested_tells r ok b k two there m) (λ _. second_tells r ok b k two there m)))

second_none : (p q : Option (ℕ × ℕ)) → field_refusal (range2_said p q) ≡ need (is_some p) 9 (need (is_some q) 9 None)
second_none None q = refl
second_none (Some p) None = refl
second_none (Some p) (Some q) =
    cond_none (no_first p.0 p.1 || no_offset q.0 q.1) do_not_use
    (signed (second_range (first_range p.0 p.1) q.0 q.1)) refl refl

range2_by_lem : (c : Bool) (b : List ℕ) (k m : ℕ) (r : BlockRow)
    → field_refusal (range2_by b k m (cond c (row r) (refused_by 9)))
    ≡ need c 9 (need (is_epoch b r) 9 (need (is_some (first_pair r b (nest_of r b k))) 9 (need (is_some (second_pair r b (pick (seconds (nest_of r b k)) m))) 9 None)))
range2_by_lem true b k m r =
    said_need (is_epoch b r) _ ∙ ap (need (is_epoch b r) 9) (second_none (first_pair r b (nest_of r b k)) (second_pair r b (pick (seconds (nest_of r b k)) m)))
range2_by_lem false b k m r = refl

five : (a b c d e : Bool) → need (a && (b && (c && d)) && e) 9 None ≡ need c 9 (need (a && b) 9 (need d 9 (need e 9 None)))
five true true true true e = refl
five true true true false e = refl
five true true false d e = refl
five true false true d e = refl
five true false false d e = refl
five false b true d e = refl
five false b false d e = refl

pub range2_row : (b : List ℕ) (k m : ℕ) (x : Seen) → field_refusal (range2_by b k m (seen_sub_row b k x)) ≡ then_of x (λ r. need (range2_test b k m r) 9 None)
unfolding seen_sub_row
range2_row b k m (refused_by n) = refl
range2_row b k m (row r) =
    range2_by_lem (ltb k (sub_count b r)) b k m r
    ∙ sym (five (eqb (number_in b) 4027) (not (one_level r)) (ltb k (sub_count b r)) (is_some (first_pair r b (nest_of r b k))) (is_some (second_pair r b (pick (seconds (nest_of r b k)) m))))
