-- The tests on a block and its row, and the conditions of refusals 6 to 9.
-- Assumes nothing.
use Prim.Native.Nat.{ℕ, ◌+◌, ◌*◌, ◌≤◌, ◌<◌}
use native.Mathlib.Omega.{arith}
use mathlib.Core.Path.{◌≡◌, refl, sym, ap, ◌∙◌, subst}
use mathlib.Core.Bool.{Bool, true, false, not, cond}
use mathlib.Core.List.{List}
use mathlib.Core.Logic.{◌⊎◌, inl, inr, ⊎_elim}
use Rattle.std.proofs.Common.{None, Some}
use lib.ListN.{length}
use lib.Dec.{leb, ltb, eqb}
use borrow.Author.Tests.{leb-true, leb-false, ltb-true, ltb-false, eqb-true, eqb-false, not-true, not-false, eq-eqb}
use Rattle.rows.specs.declared.FieldRow.{FieldRow}
use Rattle.table.specs.Lists.{every, pick}
use Rattle.table.specs.Rows.{BlockRow, Table, ends, first_rows, second_rows}
use Rattle.table.specs.Decode.{decode}
use Rattle.table.specs.Rules.{table_ok}
use Rattle.table.specs.Lookup.{has_number, find_row}
use Rattle.table.proofs.Laws.{one_row}
use Rattle.walk.specs.Walk.{walk_end}
use Rattle.block.specs.Block.{revision_in, ends_by, body_fits, one_fits, walk_of, nest_fits, subs_fit, sub_count}
use Rattle.demands.specs.Refusals.{OneFrame, block_number, block_revision, L, N, SBLength, SB2Length, RowOf, OfRow, EndsPast, NotInTable, BodyDoesNotFit, OneLevelDoesNotFit, start_of, TwoLevelsDoNotFit, SubsDoNotFit, NoField, NoSubBlock}
use Rattle.demands.proofs.Exact.{Tells, retell, both, regroup, within, orelse, empty_tells}
use Rattle.demands.proofs.Listed.{first_there, first_none, every_tells}
use Rattle.demands.proofs.Walked.{ends_at, any_tells}

-- ---- the row of a number

pub row_there : (t : Table) (n : ℕ) {r : BlockRow} → find_row t n ≡ Some r → RowOf t n r
unfolding find_row
row_there t n {r} e =
    let h = first_there (has_number n) t.rows e in
    record { among = h.0; same = eqb-true r.number n h.1 }

pub row_none : (t : Table) (n : ℕ) → find_row t n ≡ None → NotInTable t n
unfolding find_row
row_none t n e r h =
    first_none (has_number n) t.rows e h.among.0 h.among.1 (eq-eqb r.number n h.same)

-- T8: a table that passes has one row of a number
pub only : (t : List ℕ) (n : ℕ) → table_ok t ≡ true → (q r : BlockRow) → RowOf (decode t) n q → RowOf (decode t) n r → q ≡ r
only t n ok q r h k =
    let i : h.among.0 ≡ k.among.0 = one_row t ok h.among.0 k.among.0 q r h.among.1 k.among.1 (h.same ∙ sym k.same) in
    let e : Some q ≡ Some r = sym h.among.1 ∙ ap (pick (decode t).rows) i ∙ k.among.1 in
    cc

-- a condition on that row tells what one on the row of the number does
pub of_row : (t : Table) (n : ℕ) (r : BlockRow) → RowOf t n r → ((q : BlockRow) → RowOf t n q → q ≡ r) → (P : BlockRow → Type 0) {c : Bool}
    → Tells c (P r) → Tells c (OfRow t n P)
of_row t n r mine one P u =
    record { fine = λ e g. u.fine e (subst P (one g.0 g.1.0) g.1.1); holds = λ e. (r, (mine, u.holds e)) }

-- ---- tests turned round

pub swap : {c : Bool} {P Q : Type 0} → Tells c (P ⊎ Q) → Tells c (Q ⊎ P)
swap u = retell (⊎_elim inr inl) (⊎_elim inr inl) u

pub above : (m n : ℕ) → Tells (not (leb m n)) (m ≤ n)
above m n =
    record {
      fine = λ e h. let l = leb-false m n (not-true (leb m n) e) in omega arith;
      holds = λ e. leb-true m n (not-false (leb m n) e);
    }

pub below : (m n : ℕ) → Tells (ltb m n) (n ≤ m)
below m n = record { fine = λ e h. let l = ltb-true m n e in omega arith; holds = λ e. ltb-false m n e }

twice : (c : Bool) {P : Type 0} → Tells c P → Tells (not (not c)) P
twice true u = u
twice false u = u

-- ---- the fields

pub past_tells : (fs : List FieldRow) (revision n : ℕ) → Tells (every (ends_by revision n) fs) (EndsPast fs revision n)
past_tells fs revision n =
    every_tells (ends_by revision n) (λ (f : FieldRow). (f.first ≤ revision) × (n < ends f))
    (λ f. orelse (above f.first revision) (within (ends f) n)) fs

-- a test on the number of the bytes is one on L
pub of_length : (b : List ℕ) → OneFrame b → (P : ℕ → Type 0) {c : Bool} → Tells c (P (length b)) → Tells c (P (L b))
of_length b frame P {c} u = subst (λ (n : ℕ). Tells c (P n)) (sym frame.all) u

module _ (t : Table) (b : List ℕ) (r : BlockRow) (mine : RowOf t (block_number b) r) (one : (q : BlockRow) → RowOf t (block_number b) q → q ≡ r) (frame : OneFrame b) where
  pub seven_tells : Tells (body_fits b r) (BodyDoesNotFit t b)
  unfolding body_fits
  seven_tells =
      swap
      (both (of_length b frame (λ (n : ℕ). n < 14) (within 14 (length b)))
      (of_row t (block_number b) r mine one (λ (q : BlockRow). EndsPast q.body (block_revision b) (L b))
      (of_length b frame (EndsPast r.body (block_revision b)) (past_tells r.body (revision_in b) (length b)))))

  one_tells : Tells (one_fits b r) (OneLevelDoesNotFit b r)
  unfolding one_fits
  one_tells =
      orelse (twice (eqb (length r.subs) 0) (empty_tells (length r.subs)))
      (both (orelse (empty_tells (N b)) (past_tells r.subs (revision_in b) (SBLength b)))
      (of_length b frame (λ (n : ℕ). n < 16 + N b * SBLength b) (within (16 + N b * SBLength b) (length b))))

  walk_tells : Tells (leb (walk_end 20 (walk_of r b)) (length b)) (length b < start_of r b (N b))
  walk_tells = rw (ends_at r b) (within (start_of r b (N b)) (length b))

  two_tells : Tells (nest_fits b r) (TwoLevelsDoNotFit b r)
  unfolding nest_fits
  two_tells =
      regroup
      (regroup
      (both
      (both
      (both (of_length b frame (λ (n : ℕ). n < 20) (within 20 (length b))) (of_length b frame (λ (n : ℕ). n < start_of r b (N b)) walk_tells))
      (orelse (empty_tells (N b)) (past_tells (first_rows r) (revision_in b) (SBLength b))))
      (orelse (any_tells r b) (past_tells (second_rows r) (revision_in b) (SB2Length b)))))

  levels_by : (c : Bool) → eqb r.firsts 0 ≡ c
      → Tells (cond c (one_fits b r) (nest_fits b r)) (((r.firsts ≡ 0) × OneLevelDoesNotFit b r) ⊎ ((0 < r.firsts) × TwoLevelsDoNotFit b r))
  levels_by true e =
      let z : r.firsts ≡ 0 = eqb-true r.firsts 0 e in
      retell (λ p. inl (z, p)) (⊎_elim (λ p. p.1) (λ p. let f : ⊥ = omega (arith, z, p.0) in absurd f)) one_tells
  levels_by false e =
      let z : 0 < r.firsts = (empty_tells r.firsts).holds e in
      retell (λ p. inr (z, p)) (⊎_elim (λ p. let f : ⊥ = omega (arith, z, p.0) in absurd f) (λ p. p.1)) two_tells

  pub eight_tells : Tells (subs_fit b r) (SubsDoNotFit t b)
  unfolding subs_fit
  eight_tells = of_row t (block_number b) r mine one _ (levels_by (eqb r.firsts 0) refl)

pub field_tells : (fs : List FieldRow) (i : ℕ) → Tells (ltb i (length fs)) (NoField fs i)
field_tells fs i = below i (length fs)

pub sub_tells : (b : List ℕ) (k : ℕ) (r : BlockRow) → Tells (ltb k (sub_count b r)) (NoSubBlock b k r)
sub_tells b k r = by (eqb (length r.subs) 0) refl where
  by : (c : Bool) → eqb (length r.subs) 0 ≡ c → Tells (ltb k (cond (not c) (N b) 0)) (NoSubBlock b k r)
  by true e =
      record { fine = λ f g. let l = ltb-true k 0 f in omega arith; holds = λ f. inl (eqb-true (length r.subs) 0 e) }
  by false e =
      record {
        fine = λ f g. let l = ltb-true k (N b) f in ⊎_elim (eqb-false (length r.subs) 0 e) (λ h. omega arith) g;
        holds = λ f. let l = ltb-false k (N b) f in inr (omega arith);
      }
