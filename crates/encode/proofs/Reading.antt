-- Reading a list at a place, where its rest from there is known.
-- Assumes nothing.
use mathlib.Core.List.{List, ◌∷◌, ◌++◌}
use mathlib.Core.Path.{◌≡◌, sym, ap, ◌∙◌}
use Prim.Native.Nat.{ℕ, ◌+◌, ◌/◌, ◌%◌}
use native.Mathlib.Nat.{add-zero}
use native.Mathlib.Omega.{arith}
use lib.ListN.{length, get_or, drop}
use lib.Seq.{get_or-drop, drop-drop, drop-append_seam}
use Rattle.wire.specs.Little.{little_at}

module _ (t : List ℕ) (p : ℕ) {rest : List ℕ} (e : drop p t ≡ rest) where
  pub next : (k : ℕ) → get_or t (p + k) 0 ≡ get_or rest k 0
  next k = sym (get_or-drop p t k 0) ∙ ap (λ (l : List ℕ). get_or l k 0) e

  pub here : get_or t p 0 ≡ get_or rest 0 0
  here = rw add-zero at (next 0)

  pub onward : (k : ℕ) → drop (p + k) t ≡ drop k rest
  onward k = sym (drop-drop k p t) ∙ ap (drop k) e

-- past a list that is known
pub beyond : (t : List ℕ) (p : ℕ) (xs ys : List ℕ) → drop p t ≡ xs ++ ys → (q : ℕ) → q ≡ p + length xs → drop q t ≡ ys
beyond t p xs ys e q h = rw h (onward t p e (length xs) ∙ drop-append_seam xs ys)

-- a number of two bytes
pub two_at : (t : List ℕ) (p n : ℕ) {rest : List ℕ} → drop p t ≡ n % 256 ∷ n / 256 ∷ rest → little_at 2 t p ≡ n
unfolding little_at
two_at t p n e =
    let a : get_or t p 0 ≡ n % 256 = here t p e in
    let b : get_or t (p + 1) 0 ≡ n / 256 = next t p e 1 in
    omega arith
