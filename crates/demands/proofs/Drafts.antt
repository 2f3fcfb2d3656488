-- R11: the tests of a draft, list by list, and the condition that it cannot stand in a block of its row.
-- Assumes nothing.
use Prim.Native.Nat.{ℕ, zero, suc, ◌+◌, ◌≤◌, ◌<◌}
use native.Mathlib.Omega.{arith}
use mathlib.Core.Path.{◌≡◌, refl, sym, ap, ◌∙◌, subst, subst⁻¹}
use mathlib.Core.Bool.{Bool, true, false, not, ◌&&◌, cond}
use mathlib.Core.List.{List, [], ◌∷◌}
use mathlib.Core.Logic.{◌⊎◌, inl, inr, ⊎_elim}
use Rattle.std.proofs.Common.{None, Some, IsSome}
use lib.ListN.{length, get_or, drop}
use lib.Seq.{get_or-drop}
use lib.Dec.{leb, eqb}
use borrow.Author.Tests.{eqb-true}
use Rattle.wire.proofs.Tests.{both_left, both_right, never}
use Rattle.kinds.specs.Marks.{mark_fits}
use Rattle.rows.specs.declared.FieldRow.{FieldRow}
use Rattle.table.specs.Lists.{every, pick}
use Rattle.table.specs.Rows.{BlockRow}
use Rattle.table.specs.Rules.{type_ok, mark_ok}
use Rattle.record.specs.Calls.{tow_row, wnc_row}
use Rattle.entry.specs.Wanted.{Wanted, is_unset}
use Rattle.entry.specs.Bits.{list_ok, wanted_ok}
use Rattle.draft.specs.Draft.{Draft, stamps_ok, body_ok, subs_ok, draft_ok}
use Rattle.demands.specs.Refusals.{NotAllowed, SetFrom, ListNotAllowed, WithSubFields, WithoutSubFields, CannotStand}
use Rattle.demands.proofs.Exact.{Tells, retell, both, within, empty_tells}
use Rattle.demands.proofs.Listed.{nothing_there, every_tells}
use Rattle.demands.proofs.Fits.{swap}
use Rattle.writer.proofs.Rows.{FieldsKept, RowKept}
use Rattle.demands.proofs.Values.{wanted_tells}

-- ---- a list of values

one_tells : (w : Wanted) → Tells (is_unset w) (IsSome w)
one_tells None = record { fine = λ _ s. never s refl; holds = λ z. never refl z }
one_tells (Some said) = record { fine = λ z. never refl (sym z); holds = λ _. refl }

module _ (w : Wanted) (ws : List Wanted) where
  set_here : IsSome w ⊎ SetFrom 0 ws → SetFrom 0 (w ∷ ws)
  set_here (inl s) = (0, (omega arith, s))
  set_here (inr g) = (suc g.0, (omega arith, g.1.1))

  set_which : (i : ℕ) → IsSome (get_or (w ∷ ws) i None) → IsSome w ⊎ SetFrom 0 ws
  set_which zero s = inl s
  set_which (suc i) s = inr (i, (omega arith, s))

-- all are unset
unset_tells : (ws : List Wanted) → Tells (every is_unset ws) (SetFrom 0 ws)
unfolding every
unset_tells [] = record { fine = λ _ g. never g.1.1 refl; holds = λ z. never refl z }
unset_tells (w ∷ ws) = retell (set_here w ws) (λ g. set_which w ws g.0 g.1.1) (both (one_tells w) (unset_tells ws))

-- the first value and the first row, and then the others
module _ (revision : ℕ) (f : FieldRow) (fs : List FieldRow) (ws : List Wanted) where
  abbrev Later : Type 0
  Later = NotAllowed revision f (get_or ws 0 None) ⊎ ListNotAllowed revision fs (drop 1 ws)

  shift : (i : ℕ) → get_or (drop 1 ws) i None ≡ get_or ws (suc i) None
  shift i = let k : 1 + i ≡ suc i = omega arith in get_or-drop 1 ws i None ∙ ap (λ (n : ℕ). get_or ws n None) k

  list_here : Later → ListNotAllowed revision (f ∷ fs) ws
  unfolding pick
  list_here (inl n) = inl (0, (f, (refl, n)))
  list_here (inr (inl g)) = inl (suc g.0, (g.1.0, (g.1.1.0, subst (NotAllowed revision g.1.0) (shift g.0) g.1.1.1)))
  list_here (inr (inr g)) = inr (suc g.0, (omega (arith, g.1.0), subst IsSome (shift g.0) g.1.1))

  row_which : (i : ℕ) (g : FieldRow) → pick (f ∷ fs) i ≡ Some g → NotAllowed revision g (get_or ws i None) → Later
  unfolding pick
  row_which zero g e n = let s : g ≡ f = cc in inl (subst (λ (x : FieldRow). NotAllowed revision x (get_or ws 0 None)) s n)
  row_which (suc i) g e n = inr (inl (i, (g, (e, subst⁻¹ (NotAllowed revision g) (shift i) n))))

  past_which : (i : ℕ) → length (f ∷ fs) ≤ i → IsSome (get_or ws i None) → Later
  past_which zero l s = let z : ⊥ = omega arith in absurd z
  past_which (suc i) l s = inr (inr (i, (omega arith, subst⁻¹ IsSome (shift i) s)))

  list_which : ListNotAllowed revision (f ∷ fs) ws → Later
  list_which (inl g) = row_which g.0 g.1.0 g.1.1.0 g.1.1.1
  list_which (inr g) = past_which g.0 g.1.0 g.1.1

list_by : (revision : ℕ) (fs : List FieldRow) → every type_ok fs ≡ true → every mark_ok fs ≡ true → (ws : List Wanted)
    → Tells (list_ok revision fs ws) (ListNotAllowed revision fs ws)
unfolding list_ok every pick
list_by revision [] k m ws =
    retell inr (⊎_elim (λ g. nothing_there g.1.1.0) (λ g. g)) (unset_tells ws)
list_by revision (f ∷ fs) k m ws =
    retell (list_here revision f fs ws) (list_which revision f fs ws)
    (both (wanted_tells revision f (both_left (type_ok f) _ k) (both_left (mark_ok f) _ m) (get_or ws 0 None))
    (list_by revision fs (both_right (type_ok f) _ k) (both_right (mark_ok f) _ m) (drop 1 ws)))

list_tells : (revision : ℕ) {at : ℕ} (fs : List FieldRow) → FieldsKept at fs → (ws : List Wanted) → Tells (list_ok revision fs ws) (ListNotAllowed revision fs ws)
list_tells revision fs right ws = list_by revision fs right.types right.marks ws

-- ---- the draft

turn : {P Q R : Type 0} → P ⊎ (Q ⊎ R) → Q ⊎ (P ⊎ R)
turn (inl p) = inr (inl p)
turn (inr (inl q)) = inl q
turn (inr (inr r)) = inr (inr r)

-- the tests stand in a row from the left, with those of TOW and WNc as one
in_a_row : (a b c d e : Bool) → (a && (b && (c && (d && e)))) ≡ (a && (b && c) && d && e)
in_a_row true true true d e = refl
in_a_row true true false d e = refl
in_a_row true false c d e = refl
in_a_row false b c d e = refl

module _ (r : BlockRow) (d : Draft) (right : RowKept r) where
  abbrev Lists : Type 0
  Lists = ((0 < length r.subs) × WithSubFields r d) ⊎ ((length r.subs ≡ 0) × WithoutSubFields r d)

  lists_by : (c : Bool) → eqb (length r.subs) 0 ≡ c
      → Tells (cond (not c) (every is_unset d.body) (list_ok d.revision r.body d.body)
      && cond (not c) (leb (length d.subs) 255 && every (list_ok d.revision r.subs) d.subs) (eqb (length d.subs) 0)) Lists
  lists_by true e =
      let n : length r.subs ≡ 0 = eqb-true (length r.subs) 0 e in
      retell (λ p. inr (n, p)) (⊎_elim (λ p. let z : ⊥ = omega (arith, n, p.0) in absurd z) (λ p. p.1))
      (swap (both (list_tells d.revision r.body right.body d.body) (empty_tells (length d.subs))))
  lists_by false e =
      let n : 0 < length r.subs = (empty_tells (length r.subs)).holds e in
      retell (λ p. inl (n, turn p)) (⊎_elim (λ p. turn p.1) (λ p. let z : ⊥ = omega (arith, n, p.0) in absurd z))
      (both (unset_tells d.body)
      (both (within (length d.subs) 255)
      (every_tells (list_ok d.revision r.subs) (ListNotAllowed d.revision r.subs)
      (list_tells d.revision r.subs right.subs) d.subs)))

  lists_tells : Tells (body_ok r d && subs_ok r d) Lists
  unfolding body_ok subs_ok
  lists_tells = lists_by (eqb (length r.subs) 0) refl

  pub stand_tells : Tells (draft_ok r d) (CannotStand r d)
  unfolding draft_ok stamps_ok mark_fits
  stand_tells =
      let v = d.revision in
      subst (λ (c : Bool). Tells c (CannotStand r d))
      (in_a_row (leb v 7) (wanted_ok v tow_row d.tow) (wanted_ok v wnc_row d.wnc) (body_ok r d) (subs_ok r d))
      (both (within v 7) (both (wanted_tells v tow_row refl refl d.tow) (both (wanted_tells v wnc_row refl refl d.wnc) lists_tells)))
