-- What two copies leave: the bytes p .. m of the run, then the hold as it was.
-- Assumes nothing.
use mathlib.Core.Path.{◌≡◌, sym, ap, ap₂, ◌∙◌}
use mathlib.Core.List.{List, ◌++◌}
use Prim.Native.Nat.{ℕ, ◌+◌, ◌-◌, ◌≤◌, ◌<◌}
use native.Mathlib.Nat.{zero-add}
use native.Mathlib.Omega.{arith}
use lib.ListN.{length, take, drop, length-drop}
use lib.Seq.{paste, take-append-add, drop-append-le, drop-append-add, length-take-le, drop_at, take_at, drop-drop}
use Rattle.frame.proofs.Parts.{take_drop}

-- n bytes of the hold behind the standing block, from the p-th on
pub own : (h : List ℕ) (block n p : ℕ) → block + n ≤ length h → p ≤ n → drop p (take n (drop block h)) ≡ take (n - p) (drop (block + p) h)
own h block n p fits l =
    let e : n ≡ p + (n - p) = omega arith in
    ap (λ (x : ℕ). drop p (take x (drop block h))) e ∙ sym (take_drop (n - p) p (drop block h) (omega (arith, length-drop block h)))
    ∙ ap (take (n - p)) (drop-drop p block h)

module _ (h : List ℕ) (block n : ℕ) (piece : List ℕ) (p m : ℕ) (fits : block + n ≤ length h) (pm : p ≤ m) (nm : n ≤ m) where
  long : n ≤ length (drop block h)
  long = omega (arith, length-drop block h)

  -- the first m bytes of the run
  first : take m (take n (drop block h) ++ piece) ≡ take n (drop block h) ++ take (m - n) piece
  first =
      let e : m ≡ length (take n (drop block h)) + (m - n) = omega (arith, length-take-le n (drop block h) long) in
      ap (λ (k : ℕ). take k (take n (drop block h) ++ piece)) e ∙ take-append-add (take n (drop block h)) piece (m - n)

  -- what is left of the hold's bytes moves down, and the piece's follow
  pub from_hold : p < n
      → paste (paste h 0 (drop (block + p) h) (n - p)) (n - p) (drop 0 piece) (m - n)
      ≡ drop p (take m (take n (drop block h) ++ piece)) ++ drop (m - p) h
  from_hold l =
      let k : ℕ = n - p in
      let s : List ℕ = drop (block + p) h in
      let f : n - p + (m - n) ≡ m - p = omega arith in
      let ls : n - p ≤ length s = omega (arith, length-drop (block + p) h) in
      let xs : drop p (take m (take n (drop block h) ++ piece)) ≡ take (n - p) s ++ take (m - n) piece =
      ap (drop p) first ∙ drop-append-le p (take n (drop block h)) (take (m - n) piece) (omega (arith, length-take-le n (drop block h) long))
      ∙ ap (λ (x : List ℕ). x ++ take (m - n) piece) (own h block n p fits (omega arith)) in
      let h1 : List ℕ = take (n - p) s ++ drop (0 + (n - p)) h in
      let front : take (n - p) (take (n - p) s ++ drop (0 + (n - p)) h) ≡ take (n - p) s =
      take_at (take (n - p) s) (drop (0 + (n - p)) h) (n - p) (length-take-le (n - p) s ls) in
      let back : drop (n - p + (m - n)) (take (n - p) s ++ drop (0 + (n - p)) h) ≡ drop (m - p) h =
      sym (drop-drop (m - n) (n - p) (take (n - p) s ++ drop (0 + (n - p)) h))
      ∙ ap (drop (m - n)) (drop_at (take (n - p) s) (drop (0 + (n - p)) h) (n - p) (length-take-le (n - p) s ls) ∙ ap (λ (x : ℕ). drop x h) (zero-add (n - p)))
      ∙ drop-drop (m - n) (n - p) h ∙ ap (λ (x : ℕ). drop x h) f in
      ap₂ (λ (x y : List ℕ). x ++ take (m - n) piece ++ y) front back ∙ ap (λ (x : List ℕ). x ++ drop (m - p) h) (sym xs)

  -- all that is kept is the piece's
  pub from_piece : n ≤ p → m ≤ n + length piece
      → paste h 0 (drop (p - n) piece) (m - p) ≡ drop p (take m (take n (drop block h) ++ piece)) ++ drop (m - p) h
  from_piece l mp =
      let e : p ≡ length (take n (drop block h)) + (p - n) = omega (arith, length-take-le n (drop block h) long) in
      let f : p - n + (m - p) ≡ m - n = omega arith in
      let xs : drop p (take m (take n (drop block h) ++ piece)) ≡ take (m - p) (drop (p - n) piece) =
      ap (drop p) first ∙ ap (λ (x : ℕ). drop x (take n (drop block h) ++ take (m - n) piece)) e
      ∙ drop-append-add (take n (drop block h)) (take (m - n) piece) (p - n)
      ∙ ap (λ (x : ℕ). drop (p - n) (take x piece)) (sym f) ∙ sym (take_drop (m - p) (p - n) piece (omega arith)) in
      ap₂ (λ (x y : List ℕ). x ++ y) (sym xs) (ap (λ (x : ℕ). drop x h) (zero-add (m - p)))
