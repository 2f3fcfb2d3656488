-- Parts of a list: n elements from p.
-- Assumes nothing.
use mathlib.Core.List.{List, [], ◌∷◌, ◌++◌}
use mathlib.Core.Path.{◌≡◌, refl, sym, ap, ◌∙◌}
use Prim.Native.Nat.{ℕ, suc, ◌+◌, ◌<◌, ◌≤◌}
use native.Mathlib.Numerals.{add-one}
use native.Mathlib.Omega.{arith}
use lib.ListN.{length, get_or, take, drop}
use lib.Seq.{drop-cons, take-add, drop-drop, take-length}

unfoldable pub part : List ℕ → ℕ → ℕ → List ℕ
part t p n = take n (drop p t)

module _ (t : List ℕ) where
  pub part_none : (p : ℕ) → part t p 0 ≡ []
  unfolding part
  part_none p = refl

  pub part-cons : (p n : ℕ) → p < length t → part t p (suc n) ≡ get_or t p 0 ∷ part t (p + 1) n
  unfolding part
  part-cons p n h = rw (add-one, drop-cons t p 0)

  pub part_add : (p n m : ℕ) → part t p (n + m) ≡ part t p n ++ part t (p + n) m
  unfolding part
  part_add p n m = take-add n m (drop p t) ∙ ap (λ (l : List ℕ). take n (drop p t) ++ take m l) (drop-drop n p t)

  pub glue : (p n q m k : ℕ) → q ≡ p + n → k ≡ n + m → part t p n ++ part t q m ≡ part t p k
  glue p n q m k e g = sym (ap (part t p) g ∙ part_add p n m ∙ rw (← e))

  pub part_all : part t 0 (length t) ≡ t
  unfolding part
  part_all = take-length t

  pub part_two : (p : ℕ) → p + 2 ≤ length t → part t p 2 ≡ get_or t p 0 ∷ get_or t (p + 1) 0 ∷ []
  part_two p h =
      let i : p < length t = omega arith in
      let j : p + 1 < length t = omega arith in
      part-cons p 1 i ∙ ap (λ (l : List ℕ). get_or t p 0 ∷ l) (part-cons (p + 1) 0 j ∙ ap (λ (l : List ℕ). get_or t (p + 1) 0 ∷ l) (part_none (p + 1 + 1)))

  pub four : (p : ℕ) → p + 4 ≤ length t → part t p 4 ≡ get_or t p 0 ∷ get_or t (p + 1) 0 ∷ get_or t (p + 2) 0 ∷ get_or t (p + 3) 0 ∷ []
  four p h =
      let e : p + 2 + 1 ≡ p + 3 = omega arith in
      part_add p 2 2 ∙ rw (part_two p (omega arith), part_two (p + 2) (omega arith), e)
