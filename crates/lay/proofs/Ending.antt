-- The list that has a place, and where it ends.
-- Assumes nothing.
use mathlib.Core.List.{List}
use mathlib.Core.Path.{◌≡◌, refl, sym, subst, ◌∙◌}
use Prim.Native.Nat.{ℕ, ◌+◌, ◌≤◌, ◌<◌}
use native.Mathlib.Omega.{arith}
use lib.ListN.{length, get_or}
use Rattle.entry.specs.Wanted.{begins}
use Rattle.entry.proofs.Places.{values_end, values_stop, subs_go}
use Rattle.draft.specs.Code.{subs_from}
use Rattle.lay.specs.Code.{Ending}

-- up to i no sub-block has begun since p
pub record Passing (kinds : List ℕ) (p i : ℕ) : Type 0 where
  pub onward : p ≤ i
  pub within : i ≤ length kinds
  pub subs : (bits : List ℕ) → subs_from kinds bits i ≡ subs_from kinds bits p

module _ (kinds : List ℕ) (p : ℕ) where
  pub passing_none : p ≤ length kinds → Passing kinds p p
  passing_none h = record { onward = omega arith; within = h; subs = λ bits. refl }

  module _ {i : ℕ} (inv : Passing kinds p i) where
    pub passing_more : i < length kinds → (get_or kinds i 0 ≡ begins → ⊥) → Passing kinds p (i + 1)
    passing_more h e =
        record { onward = omega arith; within = omega arith; subs = λ bits. sym (subs_go kinds bits i h e) ∙ inv.subs bits }

    pub ends_begun : i < length kinds → get_or kinds i 0 ≡ begins → Ending kinds p i
    ends_begun h e bits = record { onward = inv.onward; within = inv.within; stops = values_stop kinds bits i h e; subs = inv.subs bits }

    pub ends_all : length kinds ≤ i → Ending kinds p (length kinds)
    ends_all h =
        let e : i ≡ length kinds = let w = inv.within in omega arith in
        subst (Ending kinds p) e (λ bits. record { onward = inv.onward; within = inv.within; stops = values_end kinds bits i h; subs = inv.subs bits })
