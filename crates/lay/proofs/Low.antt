-- The low bytes of a value as it was given are those of the bits that the field is written with: so once it is known to be allowed, its 64
-- bits are stored as they are.
-- Assumes nothing.
use mathlib.Core.Bool.{Bool, true, false, cond}
use mathlib.Core.List.{List, ◌∷◌}
use Rattle.std.proofs.Common.{Option, None, Some, unwrap_or}
use mathlib.Core.Path.{◌≡◌, refl, ap, ap₂, ◌∙◌}
use Prim.Native.Nat.{ℕ, zero, suc, ◌+◌, ◌-◌, ◌*◌, ◌/◌, ◌%◌, ◌^◌, ◌<◌, ◌≤◌}
use native.Mathlib.Nat.{pow-succ', mul_assoc}
use native.Mathlib.Omega.{arith}
use lib.Dec.{ltb, leb, eqb}
use lib.IntN.{pos, negsuc}
use borrow.Author.Tests.{ltb-true, leb-true, lt-ltb, le-ltb}
use Rattle.wire.proofs.Tests.{lt?, eq?, both}
use Rattle.kinds.specs.Types.{f4, f8, i1, i8, size_of, is_unsigned, is_signed, half}
use Rattle.kinds.specs.Marks.{is_do_not_use}
use Rattle.rows.specs.declared.FieldRow.{FieldRow}
use Rattle.value.specs.Bits.{with_sign}
use Rattle.table.specs.Lists.{is_some}
use Rattle.pen.specs.Bytes.{little_bytes}
use Rattle.entry.specs.Wanted.{wanted_of}
use Rattle.entry.specs.Bits.{unsigned_bits, signed_within, signed_bits, bits_for, unless_marked, bits_of}
use Rattle.lay.specs.Fields.{field_out}

-- what is above k bytes is not among them
pub little_over : (k n m : ℕ) → little_bytes k (n + 256 ^ k * m) ≡ little_bytes k n
unfolding little_bytes
little_over zero n m = refl
little_over (suc k) n m =
    let q = 256 ^ k * m in
    let e : 256 ^ suc k * m ≡ 256 * q = rw (pow-succ' 256 k) (mul_assoc 256 (256 ^ k) m) in
    let r : (n + 256 ^ suc k * m) % 256 ≡ n % 256 = omega arith in
    let d : (n + 256 ^ suc k * m) / 256 ≡ n / 256 + q = omega arith in
    ap₂ (λ (x : ℕ) (y : List ℕ). x ∷ y) r (ap (little_bytes k) d ∙ little_over k (n / 256) m)

-- where a test decides that there is something, it holds
pub only_if : {A : Type 0} (b : Bool) (o : Option A) {x : A} → cond b o None ≡ Some x → (b ≡ true) × (o ≡ Some x)
only_if true o e = (refl, e)
only_if false o e = cc

same_unsigned : (size n y : ℕ) → unsigned_bits size n ≡ Some y → n ≡ y
same_unsigned size n y e = cc (only_if (ltb n (256 ^ size)) (Some n) e).1

not_marked : (f : FieldRow) (o : Option ℕ) (y : ℕ) → unless_marked f o ≡ Some y → o ≡ Some y
not_marked f None y e = e
not_marked f (Some x) y e = by (is_do_not_use f.mark f.kind x) e where
  by : (b : Bool) → cond b None (Some x) ≡ Some y → Some x ≡ Some y
  by true g = cc
  by false g = g

-- a negative number in 64 bits, and in fewer: 256 ^ k * m more make 2 ^ 64
module _ (k h m x y : ℕ) (w : x < 2 ^ 64) (t : 256 ^ k + 256 ^ k * m ≡ 2 ^ 64) where
  below : x < 2 ^ 63 → signed_within h (256 ^ k) (pos x) ≡ Some y → little_bytes k x ≡ little_bytes k y
  below l e = ap (little_bytes k) (cc (only_if (ltb x h) (Some x) e).1)

  above : 2 ^ 63 ≤ x → h ≤ 256 ^ k → signed_within h (256 ^ k) (negsuc (2 ^ 63 + 2 ^ 63 - suc x)) ≡ Some y → little_bytes k x ≡ little_bytes k y
  above l s e =
      let n = 2 ^ 63 + 2 ^ 63 - suc x in
      let o = only_if (ltb n h) (Some (256 ^ k - suc n)) e in
      let u : n < h = ltb-true _ _ o.0 in
      let q : 256 ^ k - suc n ≡ y = cc o.1 in
      let v : x ≡ y + 256 ^ k * m = omega arith in
      ap (little_bytes k) v ∙ little_over k y m

  signed_low : h ≤ 256 ^ k → signed_within h (256 ^ k) (with_sign (2 ^ 63) x) ≡ Some y → little_bytes k x ≡ little_bytes k y
  unfolding with_sign
  signed_low s e =
      lt? x (2 ^ 63) (λ l. below l (rw (lt-ltb x (2 ^ 63) l) at e)) (λ g. above g s (rw (le-ltb x (2 ^ 63) g) at e))

-- by the types with sign
signed_kinds : (kind x y : ℕ) → x < 2 ^ 64 → 5 ≤ kind → kind ≤ 8 → signed_bits (size_of kind) (with_sign (half 8) x) ≡ Some y
    → little_bytes (size_of kind) x ≡ little_bytes (size_of kind) y
unfolding size_of
signed_kinds kind x y w a b e =
    eq? kind 5 (λ k. rw k (signed_low 1 128 (2 ^ 56 - 1) x y w refl (omega arith) (rw k at e)))
    (λ n5. eq? kind 6 (λ k. rw k (signed_low 2 (2 ^ 15) (2 ^ 48 - 1) x y w refl (omega arith) (rw k at e)))
    (λ n6. eq? kind 7 (λ k. rw k (signed_low 4 (2 ^ 31) (2 ^ 32 - 1) x y w refl (omega arith) (rw k at e)))
    (λ n7. let k : kind ≡ 8 = omega arith in rw k (signed_low 8 (2 ^ 63) 0 x y w refl (omega arith) (rw k at e)))))

module _ (f : FieldRow) (x y : ℕ) (w : x < 2 ^ 64) where
  abbrev Low : Type 0
  Low = little_bytes (size_of f.kind) x ≡ little_bytes (size_of f.kind) y

  low_bytes : (k : ℕ) → (k ≡ 0 → ⊥) → bits_of f (wanted_of k x) ≡ Some y → Low
  unfolding wanted_of bits_of bits_for
  low_bytes zero n e = absurd (n refl)
  low_bytes (suc zero) n e =
      ap (little_bytes (size_of f.kind)) (same_unsigned (size_of f.kind) x y (only_if (is_unsigned f.kind) _ (not_marked f _ y e)).1)
  low_bytes (suc (suc zero)) n e =
      let o = only_if (is_signed f.kind) _ (not_marked f _ y e) in
      let t = both (leb i1 f.kind) (leb f.kind i8) o.0 in
      signed_kinds f.kind x y w (leb-true _ _ t.0) (leb-true _ _ t.1) o.1
  low_bytes (suc (suc (suc zero))) n e =
      ap (little_bytes (size_of f.kind)) (same_unsigned 4 x y (only_if (eqb f.kind f4) _ (not_marked f _ y e)).1)
  low_bytes (suc (suc (suc (suc zero)))) n e =
      ap (little_bytes (size_of f.kind)) (same_unsigned 8 x y (only_if (eqb f.kind f8) _ (not_marked f _ y e)).1)
  low_bytes (suc (suc (suc (suc (suc k))))) n e = cc

-- what is there is there
there : (o : Option ℕ) → is_some o ≡ true → o ≡ Some (unwrap_or o 0)
there None e = cc
there (Some x) e = refl

-- what `given` finds, of an entry that is not unset
pub given_value : (f : FieldRow) (k x : ℕ) → is_some (bits_of f (wanted_of k x)) ≡ true → (k ≡ 0 → ⊥) → x < 2 ^ 64
    → little_bytes (size_of f.kind) x ≡ field_out f (wanted_of k x)
given_value f k x a n w = low_bytes f x (unwrap_or (bits_of f (wanted_of k x)) 0) w k n (there (bits_of f (wanted_of k x)) a)
