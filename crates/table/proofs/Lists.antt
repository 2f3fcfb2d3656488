-- Laws of lists by index, of chains, and of `every`, once for every type of element.
-- Assumes nothing.
use mathlib.Core.Bool.{Bool, true, false, ◌&&◌, cond}
use mathlib.Core.List.{List, [], ◌∷◌, map}
use Rattle.std.proofs.Common.{Option, None, Some, option_map}
use mathlib.Core.Path.{◌≡◌, refl, sym, ap, ◌∙◌}
use Prim.Native.Nat.{ℕ, zero, suc, ◌+◌, ◌-◌, ◌<◌, ◌≤◌}
use native.Mathlib.Nat.{add-zero, sub-zero, not-suc-le-zero}
use native.Mathlib.Omega.{arith}
use lib.ListN.{length, take, drop}
use Rattle.table.specs.Lists.{tabulate, every, chain, neighbours, first_that, pick}
use Rattle.wire.proofs.Tests.{both}

module _ {A : Type 0} (f : ℕ → A) where
  pub tab_none : (i k : ℕ) → k ≡ 0 → tabulate f i k ≡ []
  unfolding tabulate
  tab_none i k e = rw e

  pub tab-more : (i k : ℕ) → 0 < k → tabulate f i k ≡ f i ∷ tabulate f (i + 1) (k - 1)
  unfolding tabulate
  tab-more i k h = let n : k ≡ suc (k - 1) = omega arith in ap (tabulate f i) n

  pub length_tab : (i k : ℕ) → length (tabulate f i k) ≡ k
  unfolding tabulate
  length_tab i zero = refl
  length_tab i (suc k) = ap suc (length_tab (i + 1) k)

  -- the front of a list by index, and the rest
  pub take_tab : (i k n : ℕ) → n ≤ k → take n (tabulate f i k) ≡ tabulate f i n
  unfolding tabulate
  take_tab i k zero h = refl
  take_tab i zero (suc n) h = absurd (not-suc-le-zero h)
  take_tab i (suc k) (suc n) h = ap (λ (xs : List A). f i ∷ xs) (take_tab (i + 1) k n (omega arith))

  pub drop_tab : (i k n : ℕ) → n ≤ k → drop n (tabulate f i k) ≡ tabulate f (i + n) (k - n)
  unfolding tabulate
  drop_tab i k zero h = rw (add-zero, sub-zero)
  drop_tab i zero (suc n) h = absurd (not-suc-le-zero h)
  drop_tab i (suc k) (suc n) h =
      let m : i + 1 + n ≡ i + suc n = omega arith in
      let l : suc k - suc n ≡ k - n = omega arith in
      rw (l, ← m) (drop_tab (i + 1) k n (omega arith))

  -- what holds of every one holds of each
  pub every_at_lem : (p : A → Bool) (i k j : ℕ) → every p (tabulate f i k) ≡ true → j < k → p (f (i + j)) ≡ true
  unfolding tabulate every
  every_at_lem p i zero j e h = absurd (not-suc-le-zero h)
  every_at_lem p i (suc k) zero e h = rw add-zero (both (p (f i)) _ e).0
  every_at_lem p i (suc k) (suc j) e h =
      let n : i + 1 + j ≡ i + suc j = omega arith in
      rw (← n) (every_at_lem p (i + 1) k j (both (p (f i)) _ e).1 (omega arith))

  pub pick_in : (i k j : ℕ) → j < k → pick (tabulate f i k) j ≡ Some (f (i + j))
  unfolding tabulate pick
  pick_in i zero j h = absurd (not-suc-le-zero h)
  pick_in i (suc k) zero h = rw add-zero
  pick_in i (suc k) (suc j) h =
      let n : i + 1 + j ≡ i + suc j = omega arith in
      rw (← n) (pick_in (i + 1) k j (omega arith))

  pub pick_out : (i k j : ℕ) → k ≤ j → pick (tabulate f i k) j ≡ None
  unfolding tabulate pick
  pick_out i zero j h = refl
  pick_out i (suc k) zero h = absurd (not-suc-le-zero h)
  pick_out i (suc k) (suc j) h = pick_out (i + 1) k j (omega arith)

module _ {A B : Type 0} (f : A → B) where
  pub every_map : (p : B → Bool) (xs : List A) → every p (map f xs) ≡ every (λ (x : A). p (f x)) xs
  unfolding every
  every_map p [] = refl
  every_map p (x ∷ xs) = ap (λ (b : Bool). p (f x) && b) (every_map p xs)

  chain_map : (p : B → B → Bool) (x : A) (xs : List A) → chain p (f x) (map f xs) ≡ chain (λ (y z : A). p (f y) (f z)) x xs
  unfolding chain
  chain_map p x [] = refl
  chain_map p x (y ∷ ys) = ap (λ (b : Bool). p (f x) (f y) && b) (chain_map p y ys)

  pub neighbours_map : (p : B → B → Bool) (xs : List A) → neighbours p (map f xs) ≡ neighbours (λ (y z : A). p (f y) (f z)) xs
  unfolding neighbours
  neighbours_map p [] = refl
  neighbours_map p (x ∷ xs) = chain_map p x xs

  -- the first of a mapped list, where the test sees through the map
  pub first_map : (p : B → Bool) (xs : List A) → first_that p (map f xs) ≡ option_map f (first_that (λ (x : A). p (f x)) xs)
  unfolding first_that
  first_map p [] = refl
  first_map p (x ∷ xs) = picked (p (f x)) (first_that (λ (y : A). p (f y)) xs) (first_map p xs) where
    picked : (b : Bool) (q : Option A) {o : Option B} → o ≡ option_map f q → cond b (Some (f x)) o ≡ option_map f (cond b (Some x) q)
    picked true q e = refl
    picked false q e = e

-- the first element passes q, and every two neighbours p
unfoldable pub starts : {A : Type 0} → (A → Bool) → (A → A → Bool) → List A → Bool
starts q p [] = true
starts q p (x ∷ xs) = q x && chain p x xs

module _ {A : Type 0} (p : A → A → Bool) where
  pub chain_starts : (x : A) (xs : List A) → chain p x xs ≡ starts (p x) p xs
  unfolding chain starts
  chain_starts x [] = refl
  chain_starts x (y ∷ ys) = refl

  pub neighbours_starts : (q : A → Bool) → ((x : A) → q x ≡ true) → (xs : List A) → neighbours p xs ≡ starts q p xs
  unfolding neighbours starts
  neighbours_starts q h [] = refl
  neighbours_starts q h (x ∷ xs) = rw (h x)

  pub starts_ext : (q r : A → Bool) → ((x : A) → q x ≡ r x) → (xs : List A) → starts q p xs ≡ starts r p xs
  unfolding starts
  starts_ext q r h [] = refl
  starts_ext q r h (x ∷ xs) = rw (h x)
