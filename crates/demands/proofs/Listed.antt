-- What the first of a list, and every one of it, say of each element by its number.
-- Assumes nothing.
use Prim.Native.Nat.{ℕ, zero, suc, ◌≤◌, ◌<◌}
use native.Mathlib.Omega.{arith}
use mathlib.Core.Path.{◌≡◌, refl, sym, ap, ◌∙◌}
use mathlib.Core.Bool.{Bool, true, false, cond}
use mathlib.Core.List.{List, [], ◌∷◌}
use mathlib.Core.Logic.{◌⊎◌, inl, inr, ⊎_elim}
use Rattle.std.proofs.Common.{None, Some}
use lib.ListN.{length}
use Rattle.wire.proofs.Tests.{both_left, both_right, never}
use Rattle.table.specs.Lists.{every, first_that, pick}
use Rattle.demands.specs.Refusals.{Among}
use Rattle.demands.proofs.Exact.{Tells, retell, both}

pub nothing_there : {A X : Type 0} {x : A} → None ≡ Some x → X
nothing_there e = let z : ◌≡◌ {A = ℕ} 0 1 = cc in let f : ⊥ = omega arith in absurd f

-- x has P, and is among them
abbrev pub AnyOf : {A : Type 0} → List A → (A → Type 0) → Type 0
AnyOf {A} xs P = (x : A) × (Among xs x × P x)

module _ {A : Type 0} where
  -- the first that p holds of is among them, and p holds of it
  pub first_there : (p : A → Bool) (xs : List A) → {x : A} → first_that p xs ≡ Some x → Among xs x × (p x ≡ true)
  unfolding first_that pick
  first_there p [] e = nothing_there e
  first_there p (y ∷ ys) {x} e = by (p y) refl e (λ f. first_there p ys f) where
    by : (c : Bool) → p y ≡ c → cond c (Some y) (first_that p ys) ≡ Some x → (first_that p ys ≡ Some x → Among ys x × (p x ≡ true)) → Among (y ∷ ys) x × (p x ≡ true)
    by true q f go = let s : y ≡ x = cc in ((0, f), rw (← s) q)
    by false q f go = let r = go f in ((suc r.0.0, r.0.1), r.1)

  -- where there is none, p holds of none
  pub first_none : (p : A → Bool) (xs : List A) → first_that p xs ≡ None → (i : ℕ) {x : A} → pick xs i ≡ Some x → p x ≡ true → ⊥
  unfolding first_that pick
  first_none p [] e i f t = nothing_there f
  first_none p (y ∷ ys) e i {x} f t = by (p y) refl e i f (λ g k h. first_none p ys g k h t) where
    by : (c : Bool) → p y ≡ c → cond c (Some y) (first_that p ys) ≡ None → (i : ℕ) → pick (y ∷ ys) i ≡ Some x
        → (first_that p ys ≡ None → (k : ℕ) → pick ys k ≡ Some x → ⊥) → ⊥
    by true q g i f go = nothing_there (sym g)
    by false q g zero f go = let s : y ≡ x = cc in never t (rw (← s) q)
    by false q g (suc i) f go = go g i f

  pub pick_there : (xs : List A) (i : ℕ) → {x : A} → pick xs i ≡ Some x → i < length xs
  unfolding pick
  pick_there [] i e = nothing_there e
  pick_there (y ∷ ys) zero e = omega arith
  pick_there (y ∷ ys) (suc i) e = let h = pick_there ys i e in omega arith

  pub pick_none : (xs : List A) (i : ℕ) → pick xs i ≡ None → length xs ≤ i
  unfolding pick
  pick_none [] i e = omega arith
  pick_none (y ∷ ys) zero e = nothing_there (sym e)
  pick_none (y ∷ ys) (suc i) e = let h = pick_none ys i e in omega arith

  -- what holds of every one holds of one
  pub every_at_lem : (p : A → Bool) (xs : List A) (i : ℕ) {x : A} → pick xs i ≡ Some x → every p xs ≡ true → p x ≡ true
  unfolding every pick
  every_at_lem p [] i e h = nothing_there e
  every_at_lem p (y ∷ ys) zero {x} e h = let s : x ≡ y = cc in ap p s ∙ both_left (p y) _ h
  every_at_lem p (y ∷ ys) (suc i) e h = every_at_lem p ys i e (both_right (p y) _ h)

  module _ (P : A → Type 0) (y : A) (ys : List A) where
    here : P y → AnyOf (y ∷ ys) P
    unfolding pick
    here h = (y, ((0, refl), h))

    later : AnyOf ys P → AnyOf (y ∷ ys) P
    unfolding pick
    later h = (h.0, ((suc h.1.0.0, h.1.0.1), h.1.1))

    which : (x : A) (i : ℕ) → pick (y ∷ ys) i ≡ Some x → P x → P y ⊎ AnyOf ys P
    unfolding pick
    which x zero f h = let s : x ≡ y = cc in inl (rw (← s) h)
    which x (suc i) f h = inr (x, ((i, f), h))

    more_tells : {c : Bool} → Tells c (P y ⊎ AnyOf ys P) → Tells c (AnyOf (y ∷ ys) P)
    more_tells u =
        retell (⊎_elim here later) (λ g. which g.0 g.1.0.0 g.1.0.1 g.1.1) u

  -- a test of every one tells whether its condition holds of one
  pub every_tells : (p : A → Bool) (P : A → Type 0) → ((x : A) → Tells (p x) (P x)) → (xs : List A) → Tells (every p xs) (AnyOf xs P)
  unfolding every pick
  every_tells p P t [] = record { fine = λ e g. nothing_there g.1.0.1; holds = λ e. never refl e }
  every_tells p P t (y ∷ ys) = more_tells P y ys (both (t y) (every_tells p P t ys))
