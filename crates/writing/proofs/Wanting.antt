-- Rows that keep the rules, one after the other, and what may be wanted of each: a carried field has bits, and past the last row all
-- is unset.
-- Assumes nothing.
use mathlib.Core.Bool.{true}
use mathlib.Core.List.{List, [], ◌∷◌}
use Rattle.std.proofs.Common.{Option, None, Some, unwrap_or}
use mathlib.Core.Path.{◌≡◌, refl, sym, ap, ◌∙◌}
use Prim.Native.Nat.{ℕ, zero, suc, ◌≤◌}
use native.Mathlib.Omega.{arith}
use lib.Dec.{leb}
use lib.ListN.{length, get_or, drop}
use borrow.Author.Tests.{leb-true}
use Rattle.wire.proofs.Tests.{both, never}
use Rattle.rows.specs.declared.FieldRow.{FieldRow}
use Rattle.table.specs.Lists.{every, pick, is_some}
use Rattle.table.specs.Rows.{ends}
use Rattle.table.specs.Rules.{type_ok, mark_ok}
use Rattle.table.specs.Lookup.{carried}
use Rattle.entry.specs.Wanted.{Wanted, is_unset}
use Rattle.entry.specs.Bits.{bits_of, wanted_ok, list_ok}
use Rattle.lay.specs.Code.{in_order}
use Rattle.writer.specs.Block.{field_bits}
use Rattle.lay.proofs.Laying.{order_earlier}
use Rattle.writer.proofs.Rows.{FieldsKept}

-- ---- the rules

module _ (at : ℕ) (f : FieldRow) (fs : List FieldRow) (kept : FieldsKept at (f ∷ fs)) where
  pub starts_by : at ≤ f.offset
  unfolding in_order
  starts_by = leb-true _ _ (both (leb at f.offset) _ kept.order).0

  pub kept_kind : (type_ok f ≡ true) × (mark_ok f ≡ true)
  unfolding every
  kept_kind = ((both (type_ok f) _ kept.types).0, (both (mark_ok f) _ kept.marks).0)

  pub kept_rest : FieldsKept (ends f) fs
  unfolding in_order every
  kept_rest =
      record {
        order = (both (leb at f.offset) _ kept.order).1;
        types = (both (type_ok f) _ kept.types).1;
        marks = (both (mark_ok f) _ kept.marks).1;
      }

  -- also from where the row begins
  pub kept_still : FieldsKept at fs
  kept_still =
      let h = starts_by in
      let k = kept_rest in
      record { order = order_earlier fs (omega arith) k.order; types = k.types; marks = k.marks }

pub row_kind : (at : ℕ) (fs : List FieldRow) → FieldsKept at fs → (i : ℕ) (f : FieldRow) → pick fs i ≡ Some f → (type_ok f ≡ true) × (mark_ok f ≡ true)
unfolding pick
row_kind at [] kept i f q = cc
row_kind at (g ∷ fs) kept zero f q = let same : g ≡ f = cc in rw (← same) (kept_kind at g fs kept)
row_kind at (g ∷ fs) kept (suc i) f q = row_kind (ends g) fs (kept_rest at g fs kept) i f q

-- ---- what may be wanted

is_some_lem : {A : Type 0} (o : Option A) → is_some o ≡ true → (x : A) × (o ≡ Some x)
is_some_lem None e = never e refl
is_some_lem (Some x) e = (x, refl)

-- a carried field has bits
pub wanted_bits_lem : (revision : ℕ) (f : FieldRow) (w : Wanted) → wanted_ok revision f w ≡ true → carried revision f ≡ true → (x : ℕ) × (bits_of f w ≡ Some x)
unfolding wanted_ok
wanted_bits_lem revision f w e c = is_some_lem (bits_of f w) (rw c at e)

pub bits_are : (f : FieldRow) (w : Wanted) {x : ℕ} → bits_of f w ≡ Some x → field_bits f w ≡ x
bits_are f w e = ap (λ (o : Option ℕ). unwrap_or o 0) e

pub get_d_rest : {A : Type 0} (xs : List A) (i : ℕ) (d : A) → get_or (drop 1 xs) i d ≡ get_or xs (suc i) d
get_d_rest [] i d = refl
get_d_rest (x ∷ xs) i d = refl

-- each row of a list
pub wanted_at : (revision : ℕ) (fs : List FieldRow) (ws : List Wanted) → list_ok revision fs ws ≡ true → (i : ℕ) (f : FieldRow) → pick fs i ≡ Some f
    → wanted_ok revision f (get_or ws i None) ≡ true
unfolding list_ok pick
wanted_at revision [] ws ok i f q = cc
wanted_at revision (g ∷ fs) ws ok zero f q =
    let same : g ≡ f = cc in
    rw (← same) (both (wanted_ok revision g (get_or ws 0 None)) _ ok).0
wanted_at revision (g ∷ fs) ws ok (suc i) f q =
    rw (get_d_rest ws i None) at (wanted_at revision fs (drop 1 ws) (both (wanted_ok revision g (get_or ws 0 None)) _ ok).1 i f q)

unset_at : (ws : List Wanted) → every is_unset ws ≡ true → (i : ℕ) → get_or ws i None ≡ None
unfolding every
unset_at [] e i = refl
unset_at (None ∷ ws) e zero = refl
unset_at (Some x ∷ ws) e zero = never e refl
unset_at (w ∷ ws) e (suc i) = unset_at ws (both (is_unset w) _ e).1 i

-- and past the last row all is unset
pub unset_past : (revision : ℕ) (fs : List FieldRow) (ws : List Wanted) → list_ok revision fs ws ≡ true → (i : ℕ) → length fs ≤ i → get_or ws i None ≡ None
unfolding list_ok
unset_past revision [] ws ok i l = unset_at ws ok i
unset_past revision (g ∷ fs) ws ok zero l = absurd (omega arith)
unset_past revision (g ∷ fs) ws ok (suc i) l =
    sym (get_d_rest ws i None) ∙ unset_past revision fs (drop 1 ws) (both (wanted_ok revision g (get_or ws 0 None)) _ ok).1 i (omega arith)
