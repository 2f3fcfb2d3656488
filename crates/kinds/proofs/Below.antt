-- A test that antt computes at every number below a bound, and so holds at each.
-- Assumes nothing.
use mathlib.Core.Bool.{Bool, true, false, ◌&&◌}
use mathlib.Core.Path.{◌≡◌, refl, sym, subst}
use Prim.Native.Nat.{ℕ, zero, suc, ◌<◌}
use native.Mathlib.Nat.{not-suc-le-zero}
use native.Mathlib.Omega.{arith}
use lib.Dec.{eqb}
use borrow.Author.Tests.{eqb-true, eqb-false}

pub both : (a b : Bool) → (a && b) ≡ true → (a ≡ true) × (b ≡ true)
both true b e = (refl, e)
both false true e = (e, refl)
both false false e = (e, e)

abbrev pub all_below : (ℕ → Bool) → ℕ → Bool
all_below p zero = true
all_below p (suc n) = p n && all_below p n

at_by : (p : ℕ → Bool) (n k : ℕ) (c : Bool) → eqb k n ≡ c → p n ≡ true → (k < n → p k ≡ true) → k < suc n → p k ≡ true
at_by p n k true f last rest h = subst (λ (m : ℕ). p m ≡ true) (sym (eqb-true k n f)) last
at_by p n k false f last rest h = let g : k ≡ n → ⊥ = eqb-false k n f in rest (omega arith)

pub at : (p : ℕ → Bool) (n : ℕ) → all_below p n ≡ true → (k : ℕ) → k < n → p k ≡ true
at p zero e k h = absurd (not-suc-le-zero h)
at p (suc n) e k h =
    let b = both (p n) (all_below p n) e in
    at_by p n k (eqb k n) refl b.0 (at p n b.1 k) h
