-- Parts of two lists in a row, from either.
-- Assumes nothing.
use mathlib.Core.Path.{◌≡◌, sym, ap, ap₂, ◌∙◌}
use mathlib.Core.List.{List, ◌++◌, append-nil}
use Prim.Native.Nat.{ℕ, min, ◌+◌, ◌-◌, ◌≤◌, ◌<◌}
use native.Mathlib.Omega.{arith}
use lib.ListN.{length, take, drop, get_or, length-drop}
use lib.Seq.{take_all, take-add, take-append-le, take-append-add, drop-append-le, drop-append-add, drop_at, length-take-le, get_or-append-add}
use Rattle.wire.proofs.Tests.{lt?}

-- a byte of the second
pub get_right : (a b : List ℕ) (i : ℕ) → length a ≤ i → get_or (a ++ b) i 0 ≡ get_or b (i - length a) 0
get_right a b i l =
    let e : i ≡ length a + (i - length a) = omega arith in
    ap (λ (k : ℕ). get_or (a ++ b) k 0) e ∙ get_or-append-add a b (i - length a) 0

-- the first bytes reach into the second
pub take_right : (a b : List ℕ) (n : ℕ) → length a ≤ n → take n (a ++ b) ≡ a ++ take (n - length a) b
take_right a b n l =
    let e : n ≡ length a + (n - length a) = omega arith in
    ap (λ (k : ℕ). take k (a ++ b)) e ∙ take-append-add a b (n - length a)

pub drop_right : (a b : List ℕ) (n : ℕ) → length a ≤ n → drop n (a ++ b) ≡ drop (n - length a) b
drop_right a b n l =
    let e : n ≡ length a + (n - length a) = omega arith in
    ap (λ (k : ℕ). drop k (a ++ b)) e ∙ drop-append-add a b (n - length a)

pub take_drop : (n p : ℕ) (l : List ℕ) → p ≤ length l → take n (drop p l) ≡ drop p (take (p + n) l)
take_drop n p l h = sym (ap (drop p) (take-add p n l) ∙ drop_at (take p l) (take n (drop p l)) p (length-take-le p l h))

-- the bytes from 4 up to n, where they lie
module _ (a b : List ℕ) (n : ℕ) (four : 4 ≤ n) (fits : n ≤ length a + length b) where
  abbrev i : ℕ
  i = min (length a) 4

  abbrev e : ℕ
  e = min (length a) n

  in_first : n ≤ length a → i ≡ 4 → e ≡ n → take (e - i) (drop i a) ++ take (n - e - (4 - i)) (drop (4 - i) b) ≡ drop 4 (take n (a ++ b))
  in_first l ei ee =
      let f : 4 + (n - 4) ≡ n = omega arith in
      let z : n - n - (4 - 4) ≡ 0 = omega arith in
      ap₂ (λ (x y : ℕ). take (y - x) (drop x a) ++ take (n - y - (4 - x)) (drop (4 - x) b)) ei ee
      ∙ ap (λ (x : ℕ). take (n - 4) (drop 4 a) ++ take x (drop (4 - 4) b)) z
      ∙ append-nil (take (n - 4) (drop 4 a))
      ∙ take_drop (n - 4) 4 a (omega arith) ∙ ap (λ (x : ℕ). drop 4 (take x a)) f
      ∙ ap (drop 4) (sym (take-append-le n a b l))

  in_both : length a < n → 4 ≤ length a → i ≡ 4 → e ≡ length a
      → take (e - i) (drop i a) ++ take (n - e - (4 - i)) (drop (4 - i) b) ≡ drop 4 (take n (a ++ b))
  in_both l m ei ee =
      let z : n - length a - (4 - 4) ≡ n - length a = omega arith in
      ap₂ (λ (x y : ℕ). take (y - x) (drop x a) ++ take (n - y - (4 - x)) (drop (4 - x) b)) ei ee
      ∙ ap₂ (λ (x : List ℕ) (y : ℕ). x ++ take y b) (take_all (length a - 4) (drop 4 a) (omega (arith, length-drop 4 a))) z
      ∙ sym (drop-append-le 4 a (take (n - length a) b) m) ∙ ap (drop 4) (sym (take_right a b n (omega arith)))

  in_second_lem : length a < 4 → i ≡ length a → e ≡ length a
      → take (e - i) (drop i a) ++ take (n - e - (4 - i)) (drop (4 - i) b) ≡ drop 4 (take n (a ++ b))
  in_second_lem l ei ee =
      let z : length a - length a ≡ 0 = omega arith in
      let f : 4 - length a + (n - length a - (4 - length a)) ≡ n - length a = omega arith in
      ap₂ (λ (x y : ℕ). take (y - x) (drop x a) ++ take (n - y - (4 - x)) (drop (4 - x) b)) ei ee
      ∙ ap (λ (x : ℕ). take x (drop (length a) a) ++ take (n - length a - (4 - length a)) (drop (4 - length a) b)) z
      ∙ take_drop (n - length a - (4 - length a)) (4 - length a) b (omega arith)
      ∙ ap (λ (x : ℕ). drop (4 - length a) (take x b)) f
      ∙ sym (ap (drop 4) (take_right a b n (omega arith)) ∙ drop_right a (take (n - length a) b) 4 (omega arith))

  pub between : take (e - i) (drop i a) ++ take (n - e - (4 - i)) (drop (4 - i) b) ≡ drop 4 (take n (a ++ b))
  between =
      lt? (length a) n
      (λ l.
      lt? (length a) 4
      (λ m. in_second_lem m (omega arith) (omega arith))
      (λ m. in_both l m (omega arith) (omega arith)))
      (λ l. in_first l (omega arith) (omega arith))
