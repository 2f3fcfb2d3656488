-- What stands at an index of a list: something up to its length, and what every element says.
-- Assumes nothing.
use mathlib.Core.Bool.{Bool, true}
use mathlib.Core.List.{List, [], ◌∷◌}
use Rattle.std.proofs.Common.{None, Some}
use mathlib.Core.Path.{◌≡◌, refl, sym}
use Prim.Native.Nat.{ℕ, zero, suc, ◌≤◌, ◌<◌}
use native.Mathlib.Omega.{arith}
use lib.ListN.{length}
use Rattle.table.specs.Lists.{every, pick}
use Rattle.wire.proofs.Tests.{both}

pub pick_there : {A : Type 0} (xs : List A) (i : ℕ) → i < length xs → (x : A) × (pick xs i ≡ Some x)
unfolding pick
pick_there [] i h = absurd (omega arith)
pick_there (x ∷ xs) zero h = (x, refl)
pick_there (x ∷ xs) (suc i) h = pick_there xs i (omega arith)

pub pick_below : {A : Type 0} (xs : List A) (k : ℕ) (x : A) → pick xs k ≡ Some x → k < length xs
unfolding pick
pick_below [] k x q = cc
pick_below (y ∷ ys) zero x q = omega arith
pick_below (y ∷ ys) (suc k) x q = let h = pick_below ys k x q in omega arith

pub pick_past : {A : Type 0} (xs : List A) (k : ℕ) → pick xs k ≡ None → length xs ≤ k
unfolding pick
pick_past [] k q = omega arith
pick_past (y ∷ ys) zero q = cc
pick_past (y ∷ ys) (suc k) q = let h = pick_past ys k q in omega arith

pub every_pick : {A : Type 0} (p : A → Bool) (xs : List A) → every p xs ≡ true → (k : ℕ) (x : A) → pick xs k ≡ Some x → p x ≡ true
unfolding every pick
every_pick p [] e k x q = cc
every_pick p (y ∷ ys) e zero x q = let same : y ≡ x = cc in rw (← same) (both (p y) _ e).0
every_pick p (y ∷ ys) e (suc k) x q = every_pick p ys (both (p y) _ e).1 k x q
