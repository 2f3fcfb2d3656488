-- V12's sum case by case, its Do-Not-Use, and that every pseudorange fits.
-- Assumes nothing.
use mathlib.Core.Path.{◌≡◌, refl, sym, ap, ◌∙◌, subst}
use mathlib.Core.Bool.{Bool, ◌&&◌}
use Prim.Native.Nat.{ℕ, suc, ◌+◌, ◌*◌, ◌-◌, ◌%◌, ◌<◌, ◌≤◌}
use native.Mathlib.Omega.{arith}
use lib.Bits.{bit_and, and_mask}
use lib.Dec.{eqb}
use lib.IntN.{ℤ, pos, negsuc, neg_ℤ, ◌+ℤ◌, ◌*ℤ◌}
use borrow.Author.Tests.{lt-ltb, le-ltb, ne_eqb}
use Rattle.wire.proofs.Tests.{lt?, eq?}
use Rattle.value.specs.Bits.{with_sign}
use Rattle.pseudorange.specs.Range.{first_range, second_range, no_offset, is_minus4}
use Rattle.pseudorange.specs.Theorems.{Between, RangesFit}

-- V12
pub low_3 : (x : ℕ) → bit_and x 7 ≡ x % 8
low_3 x = and_mask x 3

times : (k : ℕ) → negsuc k *ℤ pos 65536 ≡ negsuc (k * 65536 + 65535)
times k = let e : suc k * 65536 ≡ suc (k * 65536 + 65535) = omega arith in ap (λ (n : ℕ). neg_ℤ (pos n)) e

-- V12: the offset below 0
offset_below : (m lsb : ℕ) → 4 ≤ m → m < 8 → lsb < 65536 → with_sign 4 m *ℤ pos 65536 +ℤ pos lsb ≡ negsuc ((8 - m) * 65536 - lsb - 1)
unfolding with_sign
offset_below m lsb g h l =
    rw (le-ltb m 4 g, times (4 + 4 - suc m), lt-ltb lsb (suc ((4 + 4 - suc m) * 65536 + 65535)) (omega arith)) (ap negsuc (omega arith))

module _ (first offsets lsb m : ℕ) (e : m ≡ offsets % 8) where
  with_sign_lem : pos first +ℤ (with_sign 4 m *ℤ pos 65536 +ℤ pos lsb) ≡ second_range first offsets lsb
  with_sign_lem = ap (λ (k : ℕ). pos first +ℤ (with_sign 4 k *ℤ pos 65536 +ℤ pos lsb)) e

  pub second_up : m < 4 → pos (first + (m * 65536 + lsb)) ≡ second_range first offsets lsb
  unfolding with_sign
  second_up h = rw (lt-ltb m 4 h) at with_sign_lem

  module _ (g : 4 ≤ m) (l : lsb < 65536) where
    down : pos first +ℤ negsuc ((8 - m) * 65536 - lsb - 1) ≡ second_range first offsets lsb
    down = ap (λ (z : ℤ). pos first +ℤ z) (sym (offset_below m lsb g (omega arith) l)) ∙ with_sign_lem

    pub second_below : first < (8 - m) * 65536 - lsb → negsuc ((8 - m) * 65536 - lsb - first - 1) ≡ second_range first offsets lsb
    second_below h = ap negsuc (omega arith) ∙ (rw (lt-ltb first (suc ((8 - m) * 65536 - lsb - 1)) (omega arith)) at down)

    pub second_above : (8 - m) * 65536 - lsb ≤ first → pos (first - ((8 - m) * 65536 - lsb)) ≡ second_range first offsets lsb
    second_above h = ap pos (omega arith) ∙ (rw (le-ltb first (suc ((8 - m) * 65536 - lsb - 1)) (omega arith)) at down)

-- V12: -4 is 4 without its sign
minus_4 : (m : ℕ) → m < 8 → eqb m 4 ≡ is_minus4 (with_sign 4 m)
unfolding with_sign
minus_4 m h =
    lt? m 4 (λ g. rw (lt-ltb m 4 g) (ne_eqb m 4 (λ e. omega arith)))
    (λ g. rw (le-ltb m 4 g)
    (eq? m 4 (λ e. rw e refl) (λ n. ne_eqb m 4 n ∙ sym (ne_eqb (4 + 4 - suc m) 3 (λ e. n (omega arith))))))

pub no_offset_is : (offsets lsb : ℕ) → (eqb (bit_and offsets 7) 4 && eqb lsb 0) ≡ no_offset offsets lsb
no_offset_is offsets lsb =
    ap (λ (n : ℕ). eqb n 4 && eqb lsb 0) (low_3 offsets) ∙ ap (λ (t : Bool). t && eqb lsb 0) (minus_4 (offsets % 8) (omega arith))

-- from -262,144 to 68,719,738,879
second_fits : (first offsets lsb m : ℕ) → m ≡ offsets % 8 → m < 8 → first < 68719476736 → lsb < 65536 → Between 262144 68719738879 (second_range first offsets lsb)
second_fits first offsets lsb m e b f l =
    lt? m 4
    (λ h. subst (Between 262144 68719738879) (second_up first offsets lsb m e h) (omega arith))
    (λ g. lt? first ((8 - m) * 65536 - lsb)
    (λ h. subst (Between 262144 68719738879) (second_below first offsets lsb m e g l h) (omega arith))
    (λ h. subst (Between 262144 68719738879) (second_above first offsets lsb m e g l h) (omega arith)))

pub fit : RangesFit
fit = record {
  first = λ misc lsb h. omega arith;
  second = λ misc code offsets lsb h l. second_fits (first_range misc code) offsets lsb (offsets % 8) refl (omega arith) (omega arith) l;
}
