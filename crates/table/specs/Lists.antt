-- Lists: what stands at each index, what holds of every element and of every two neighbours, the first that a test holds of.
-- Assumes nothing.
use Rattle.std.specs.Prelude.{Bool, true, ◌&&◌, cond, List, [], ◌∷◌, ℕ, zero, suc, ◌+◌, Option, None, Some}
pub use Rattle.std.specs.Prelude.{is_some}

-- f i, f (i + 1), and so on, n of them
unfoldable pub tabulate : {A : Type 0} → (ℕ → A) → ℕ → ℕ → List A
tabulate f i zero = []
tabulate f i (suc n) = f i ∷ tabulate f (i + 1) n

unfoldable pub every : {A : Type 0} → (A → Bool) → List A → Bool
every p [] = true
every p (x ∷ xs) = p x && every p xs

-- p holds of x and the first of the list, and of every two neighbours in the list
unfoldable pub chain : {A : Type 0} → (A → A → Bool) → A → List A → Bool
chain p x [] = true
chain p x (y ∷ ys) = p x y && chain p y ys

-- p holds of every element and the one after it
unfoldable pub neighbours : {A : Type 0} → (A → A → Bool) → List A → Bool
neighbours p [] = true
neighbours p (x ∷ xs) = chain p x xs

-- the first that p holds of
unfoldable pub first_that : {A : Type 0} → (A → Bool) → List A → Option A
first_that p [] = None
first_that p (x ∷ xs) = cond (p x) (Some x) (first_that p xs)

-- element k, if there is one
unfoldable pub pick : {A : Type 0} → List A → ℕ → Option A
pick [] k = None
pick (x ∷ xs) zero = Some x
pick (x ∷ xs) (suc k) = pick xs k
