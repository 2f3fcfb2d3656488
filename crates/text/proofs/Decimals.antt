-- The fewest digits that hold a number: in decimal as many as `places` counts, of a CRC in hex four.
-- Assumes nothing.
use mathlib.Core.Path.{◌≡◌, refl, ap}
use mathlib.Core.Bool.{Bool, true, false, cond}
use Prim.Native.Nat.{ℕ, zero, suc, ◌-◌, ◌*◌, ◌/◌, ◌^◌, ◌≤◌, ◌<◌}
use native.Mathlib.Nat.{pow-succ', pow-le-pow_right}
use native.Mathlib.Omega.{arith}
use lib.Dec.{ltb}
use borrow.Author.Tests.{ltb-true, ltb-false}
use Rattle.io.specs.Digits.{IsDigitCount}
use Rattle.text.specs.Numbers.{places}

ten_more : (k : ℕ) → 10 ^ suc k ≡ 10 * 10 ^ k
ten_more k = pow-succ' 10 k

ten_pos : (k : ℕ) → 1 ≤ 10 ^ k
ten_pos zero = omega arith
ten_pos (suc k) = omega (arith, ten_more k, ten_pos k)

one_less : (k : ℕ) → 10 ^ (suc k - 1) ≡ 10 ^ k
one_less k = let e : suc k - 1 ≡ k = omega arith in ap (λ (j : ℕ). 10 ^ j) e

-- one digit, for a number below ten
one_is : (n k : ℕ) → n < 10 → IsDigitCount 10 1 n k → k ≡ 1
one_is n zero l f = let z : ⊥ = omega (arith, f.0) in absurd z
one_is n (suc zero) l f = refl
one_is n (suc (suc k)) l f = let z : ⊥ = omega (arith, f.2 (omega arith), one_less (suc k), ten_more k, ten_pos k) in absurd z

rest_fewest : (n k : ℕ) → 10 ≤ n → IsDigitCount 10 1 n (suc (suc k)) → IsDigitCount 10 1 (n / 10) (suc k)
rest_fewest n k l f =
    (omega arith, omega (arith, f.1, ten_more (suc k)), λ (h : 1 < suc k). omega (arith, f.2 (omega arith), one_less (suc k), one_less k, ten_more k))

places_by : (b : Bool) (most n k : ℕ) → ltb n 10 ≡ b → ((m j : ℕ) → m < 10 ^ suc most → IsDigitCount 10 1 m j → j ≡ places most m)
    → n < 10 ^ suc (suc most) → IsDigitCount 10 1 n k → k ≡ cond b 1 (suc (places most (n / 10)))
places_by true most n k e ih l f = one_is n k (ltb-true n 10 e) f
places_by false most n zero e ih l f = let z : ⊥ = omega (arith, f.0) in absurd z
places_by false most n (suc zero) e ih l f = let z : ⊥ = omega (arith, f.1, ltb-false n 10 e) in absurd z
places_by false most n (suc (suc k)) e ih l f =
    ap suc (ih (n / 10) (suc k) (omega (arith, l, ten_more (suc most))) (rest_fewest n k (omega (arith, ltb-false n 10 e)) f))

pub places_is : (most n k : ℕ) → n < 10 ^ suc most → IsDigitCount 10 1 n k → k ≡ places most n
places_is zero n k l f = one_is n k (omega (arith, l)) f
places_is (suc most) n k l f = places_by (ltb n 10) most n k refl (places_is most) l f

-- a fifth digit would be for 65,536 and more
pub four_are : (n k : ℕ) → n < 65536 → IsDigitCount 16 4 n k → k ≡ 4
four_are n k l f = four_by (ltb 4 k) n k l f refl
  where
    four_by : (b : Bool) (n k : ℕ) → n < 65536 → IsDigitCount 16 4 n k → ltb 4 k ≡ b → k ≡ 4
    four_by false n k l f e = omega (arith, f.0, ltb-false 4 k e)
    four_by true n k l f e =
        let h : 4 < k = ltb-true 4 k e in
        let m : 4 ≤ k - 1 = omega arith in
        let p : 16 ^ 4 ≤ 16 ^ (k - 1) = pow-le-pow_right {n = 16} (omega arith) m in
        let z : ⊥ = omega (arith, f.2 h, p) in absurd z
