-- Where the last carried field ends is the least that holds the carried ones.
-- Assumes nothing.
use mathlib.Core.List.{List, [], ◌∷◌}
use Rattle.std.proofs.Common.{Some}
use mathlib.Core.Path.{◌≡◌, refl, sym, subst}
use mathlib.Core.Bool.{true}
use Prim.Native.Nat.{ℕ, zero, suc, ◌≤◌}
use Rattle.wire.proofs.Tests.{lt?}
use Rattle.rows.specs.declared.FieldRow.{FieldRow}
use Rattle.table.specs.Lists.{pick}
use Rattle.table.specs.Rows.{ends}
use Rattle.draft.specs.Draft.{last_end}
use Rattle.lay.specs.Code.{in_order}
use Rattle.lay.proofs.Laying.{order_rest, order_skip, last_put, last_skip, at_last}

module _ (revision : ℕ) where
  -- it holds them
  pub last_holds : (at : ℕ) (fs : List FieldRow) → in_order at fs ≡ true → (i : ℕ) (g : FieldRow) → pick fs i ≡ Some g → g.first ≤ revision → ends g ≤ last_end revision at fs
  unfolding pick
  last_holds at [] e i g p h = cc
  last_holds at (f ∷ fs) e zero g p h =
      let q : f ≡ g = cc p in
      let c : f.first ≤ revision = subst (λ (x : FieldRow). x.first ≤ revision) (sym q) h in
      rw (last_put revision at f fs [] c, ← q) (at_last revision (ends f) fs (order_rest at f fs e))
  last_holds at (f ∷ fs) e (suc i) g p h =
      lt? revision f.first
      (λ l. rw (last_skip revision at f fs [] l) (last_holds at fs (order_skip at f fs e) i g p h))
      (λ l. rw (last_put revision at f fs [] l) (last_holds (ends f) fs (order_rest at f fs e) i g p h))

  -- and nothing less does
  pub last_least : (at : ℕ) (fs : List FieldRow) (m : ℕ) → at ≤ m → ((i : ℕ) (g : FieldRow) → pick fs i ≡ Some g → g.first ≤ revision → ends g ≤ m) → last_end revision at fs ≤ m
  unfolding last_end pick
  last_least at [] m l h = l
  last_least at (f ∷ fs) m l h =
      lt? revision f.first
      (λ k. rw (last_skip revision at f fs [] k) (last_least at fs m l (λ i. h (suc i))))
      (λ k. rw (last_put revision at f fs [] k) (last_least (ends f) fs m (h 0 f refl k) (λ i. h (suc i))))
