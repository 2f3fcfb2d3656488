-- Laws of `little_at`, each once over the width.
-- Assumes nothing.
use mathlib.Core.Path.{◌≡◌, refl, sym, ap, ap₂, ◌∙◌}
use mathlib.Core.List.{List}
use Prim.Native.Nat.{ℕ, zero, suc, ◌+◌, ◌*◌, ◌^◌, ◌<◌}
use native.Mathlib.Nat.{zero-add, add-zero, suc-add, add_assoc, one-mul, mul-add, mul_assoc, pow-succ'}
use native.Mathlib.Omega.{arith}
use lib.ListN.{get_or, take, drop}
use lib.Seq.{get_or-drop}
use Rattle.std.proofs.lemmas.List.{get_or-take}
use Rattle.std.specs.Int.{w32, w64, from_le_bytes}
use Rattle.wire.specs.Little.{little_at}
use Rattle.wire.specs.Range.{InRange}

-- j bytes and then k bytes
pub join : (j k : ℕ) (s : List ℕ) (i : ℕ) → little_at (j + k) s i ≡ little_at j s i + 256 ^ j * little_at k s (i + j)
unfolding little_at
join zero k s i = rw (zero-add k, add-zero i) (sym (zero-add _ ∙ one-mul _))
join (suc j) k s i =
    let e : i + 1 + j ≡ i + suc j = omega arith in
    rw (suc-add j k)
    (ap (λ (x : ℕ). get_or s i 0 + 256 * x) (join j k s (i + 1) ∙ ap (λ (x : ℕ). little_at j s (i + 1) + 256 ^ j * little_at k s x) e)
    ∙ ap (λ (x : ℕ). get_or s i 0 + x) (mul-add 256 (little_at j s (i + 1)) (256 ^ j * little_at k s (i + suc j)) ∙ ap (λ (x : ℕ). 256 * little_at j s (i + 1) + x) (sym (mul_assoc 256 (256 ^ j) (little_at k s (i + suc j))) ∙ ap (λ (x : ℕ). x * little_at k s (i + suc j)) (sym (pow-succ' 256 j))))
    ∙ sym (add_assoc (get_or s i 0) (256 * little_at j s (i + 1)) (256 ^ suc j * little_at k s (i + suc j))))

-- k bytes make a number of k bytes
pub range : InRange
unfolding little_at
range zero s i h = omega arith
range (suc k) s i h =
    rw (pow-succ' 256 k) (omega (arith, h i, range k s (i + 1) h))

-- the same bytes make the same number
pub agree : (k : ℕ) (u v : List ℕ) (i j : ℕ) → ((d : ℕ) → d < k → get_or u (i + d) 0 ≡ get_or v (j + d) 0) → little_at k u i ≡ little_at k v j
unfolding little_at
agree zero u v i j h = refl
agree (suc k) u v i j h =
    ap₂ (λ (x y : ℕ). x + 256 * y)
    (ap (λ (x : ℕ). get_or u x 0) (sym (add-zero i)) ∙ h 0 (omega arith) ∙ ap (λ (x : ℕ). get_or v x 0) (add-zero j))
    (agree k u v (i + 1) (j + 1)
    (λ d l.
    let a : i + 1 + d ≡ i + suc d = omega arith in
    let b : j + suc d ≡ j + 1 + d = omega arith in
    ap (λ (x : ℕ). get_or u x 0) a ∙ h (suc d) (omega arith) ∙ ap (λ (x : ℕ). get_or v x 0) b))

-- a number of the rest from p on
pub little_drop : (k : ℕ) (w : List ℕ) (p i : ℕ) → little_at k (drop p w) i ≡ little_at k w (p + i)
little_drop k w p i =
    agree k (drop p w) w i (p + i) (λ d l. get_or-drop p w (i + d) 0 ∙ ap (λ (x : ℕ). get_or w x 0) (sym (add_assoc p i d)))

-- a number of the k bytes from p on
little_part : (k : ℕ) (w : List ℕ) (p : ℕ) → little_at k (take k (drop p w)) 0 ≡ little_at k w p
little_part k w p =
    agree k (take k (drop p w)) (drop p w) 0 0 (λ d l. let i : 0 + d < k = omega arith in get_or-take k (drop p w) (0 + d) 0 i)
    ∙ little_drop k w p 0 ∙ ap (little_at k w) (add-zero p)

-- what the library reads of four and of eight bytes is F1's number of them
four : (bs : List ℕ) → from_le_bytes w32 bs ≡ little_at 4 bs 0
unfolding little_at
four bs = omega arith

eight : (bs : List ℕ) → from_le_bytes w64 bs ≡ little_at 8 bs 0
unfolding little_at
eight bs = omega arith

module _ (s : List ℕ) (at : ℕ) where
  pub u4 : from_le_bytes w32 (take 4 (drop at s)) ≡ little_at 4 s at
  u4 = four _ ∙ little_part 4 s at

  pub u8 : from_le_bytes w64 (take 8 (drop at s)) ≡ little_at 8 s at
  u8 = eight _ ∙ little_part 8 s at
