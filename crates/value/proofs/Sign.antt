-- A negative number made from its distance below -1: one law for every width.
-- Assumes nothing.
use mathlib.Core.Path.{◌≡◌, refl, sym, ap, ◌∙◌, subst}
use Prim.Native.Nat.{ℕ, zero, suc, ◌<◌, ◌^◌}
use native.Mathlib.Nat.{zero-add}
use lib.IntN.{ℤ, pos, negsuc, ◌-ℤ◌}
use mir.Syntax.{w64}
use mir.Val.{SFits, to_z, of_z}
use mir.ValLaws.{to_z_pos, to_z-of_z}

minus : (n : ℕ) → negsuc 0 -ℤ pos n ≡ negsuc n
minus zero = refl
minus (suc n) = ap (λ (k : ℕ). negsuc (suc k)) (zero-add n)

pub below : (n : ℕ) → n < 2 ^ 63 → negsuc 0 -ℤ to_z w64 n ≡ negsuc n
below n h = ap (λ (z : ℤ). negsuc 0 -ℤ z) (to_z_pos w64 n h) ∙ minus n

pub below_fits : (n : ℕ) → n < 2 ^ 63 → SFits w64 (negsuc 0 -ℤ to_z w64 n)
below_fits n h = subst (SFits w64) (sym (below n h)) (record { sfits = h })

pub below_value : (n : ℕ) → n < 2 ^ 63 → to_z w64 (of_z w64 (negsuc 0 -ℤ to_z w64 n)) ≡ negsuc n
below_value n h = to_z-of_z w64 _ (below_fits n h) ∙ below n h
