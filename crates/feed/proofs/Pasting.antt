-- A copy in parts: what lies past it is as it was, and one more part goes in.
-- Assumes nothing.
use mathlib.Core.Path.{◌≡◌, sym, ap, ap₂, ◌∙◌}
use mathlib.Core.List.{List, ◌++◌}
use Prim.Native.Nat.{ℕ, ◌+◌, ◌-◌, ◌≤◌}
use native.Mathlib.Omega.{arith}
use lib.ListN.{length, take, drop, take-append-drop}
use native.Mathlib.Nat.{zero-add}
use lib.Seq.{paste, drop-paste, take_at, take-add, drop-drop, length-take-le}

-- a whole that is pasted onto itself at its own place
pub paste_self : (d : List ℕ) (k : ℕ) → d ≡ paste d 0 (drop 0 d) k
paste_self d k = sym (ap (λ (x : ℕ). take k d ++ drop x d) (zero-add k) ∙ take-append-drop k d)

-- a paste depends only on the bytes that go in
pub paste_same : (d : List ℕ) (at : ℕ) (s s' : List ℕ) (k : ℕ) → take k s ≡ take k s' → paste d at s k ≡ paste d at s' k
paste_same d at s s' k e = ap (λ (x : List ℕ). take at d ++ x ++ drop (at + k) d) e

-- a part of a list that was pasted before: the first k bytes
pub paste_front : (d s : List ℕ) (k : ℕ) → k ≤ length s → take k (paste d 0 s k) ≡ take k s
paste_front d s k h = take_at (take k s) (drop (0 + k) d) k (length-take-le k s h)

-- what lies behind a paste at the front is as it was
pub paste_behind : (d s : List ℕ) (j i : ℕ) → j ≤ length s → j ≤ i → drop i (paste d 0 s j) ≡ drop i d
paste_behind d s j i hs l =
    let e : i ≡ j + (i - j) = omega arith in
    let q : drop j (paste d 0 s j) ≡ drop j d = ap (λ (x : ℕ). drop x (paste d 0 s j)) (sym (zero-add j)) ∙ drop-paste d 0 s j (omega arith) hs ∙ ap (λ (x : ℕ). drop x d) (zero-add j) in
    ap (λ (x : ℕ). drop x (paste d 0 s j)) e ∙ sym (drop-drop (i - j) j (paste d 0 s j)) ∙ ap (drop (i - j)) q
    ∙ drop-drop (i - j) j d ∙ ap (λ (x : ℕ). drop x d) (sym e)

-- c bytes more behind j bytes
pub paste_on : (d s : List ℕ) (j c : ℕ) → j + c ≤ length s → j ≤ length d → paste (paste d 0 s j) j (drop j s) c ≡ paste d 0 s (j + c)
paste_on d s j c hs hd =
    let z : 0 + (j + c) ≡ j + c = omega arith in
    ap₂ (λ (x y : List ℕ). x ++ take c (drop j s) ++ y) (paste_front d s j (omega arith)) (paste_behind d s j (j + c) (omega arith) (omega arith))
    ∙ ap (λ (x : List ℕ). x ++ drop (j + c) d) (sym (take-add j c s))
    ∙ ap (λ (x : ℕ). take (j + c) s ++ drop x d) (sym z)
