-- Floats keep their bits: the test by which the code tells a NaN's bits, what each case then says, and that it carries no NaN as a float.
-- Assumes nothing.
use mathlib.Core.Path.{◌≡◌, refl, sym, ap, ◌∙◌, subst}
use mathlib.Core.Bool.{Bool, true, false, not}
use Prim.Native.Nat.{ℕ, ◌<◌, ◌≤◌, ◌%◌, ◌*◌, ◌^◌}
use borrow.Author.Tests.{lt-ltb, le-ltb}
use lib.Dec.{T}
use lib.Ieee.{Format, binary32, binary64, nan_bits, is_nan, of_bits, ones, hid, top}
use lib.Ieee.Bits.{nan_bits_above, nan_bits_is, to_bits-of_bits}
use Rattle.value.specs.declared.Value.TheVariants.{Single, Double, SingleNan, DoubleNan}
use Rattle.value.specs.Said.{single, double, single_case, double_case, Means, no_nan}

module _ (f : Format) (n : ℕ) where
  pub is_nan_lem : ones f * hid f < n % top f → nan_bits f n ≡ true
  is_nan_lem h = nan_bits_above f n ∙ lt-ltb _ _ h

  no_nan_lem : n % top f ≤ ones f * hid f → nan_bits f n ≡ false
  no_nan_lem h = nan_bits_above f n ∙ le-ltb _ _ h

  pub not_nan : n % top f ≤ ones f * hid f → T (not (nan_bits f n))
  not_nan h = subst (λ (b : Bool). T (not b)) (sym (no_nan_lem h)) tt

  pub float_not_nan : nan_bits f n ≡ false → T (not (is_nan (of_bits f n)))
  float_not_nan e = subst (λ (b : Bool). T (not b)) (sym e ∙ nan_bits_is f n) tt

module _ (n : ℕ) where
  pub single_nan : ones binary32 * hid binary32 < n % top binary32 → Means (SingleNan n) (single n)
  single_nan h = record { says = refl; case = rw (is_nan_lem binary32 n h) }

  pub single_is : n < 256 ^ 4 → n % top binary32 ≤ ones binary32 * hid binary32 → Means (Single (of_bits binary32 n)) (single n)
  single_is l h =
      let z = no_nan_lem binary32 n h in
      let e = to_bits-of_bits binary32 n l (float_not_nan binary32 n z) in
      record { says = ap single e; case = rw (e, z) }

  pub double_nan : ones binary64 * hid binary64 < n % top binary64 → Means (DoubleNan n) (double n)
  double_nan h = record { says = refl; case = rw (is_nan_lem binary64 n h) }

  pub double_is : n < 256 ^ 8 → n % top binary64 ≤ ones binary64 * hid binary64 → Means (Double (of_bits binary64 n)) (double n)
  double_is l h =
      let z = no_nan_lem binary64 n h in
      let e = to_bits-of_bits binary64 n l (float_not_nan binary64 n z) in
      record { says = ap double e; case = rw (e, z) }

  single_by : (x : Bool) → nan_bits binary32 n ≡ x → T (no_nan (single_case n))
  single_by true e = rw e tt
  single_by false e = rw e (float_not_nan binary32 n e)

  pub single_no_nan : T (no_nan (single_case n))
  single_no_nan = single_by (nan_bits binary32 n) refl

  double_by : (x : Bool) → nan_bits binary64 n ≡ x → T (no_nan (double_case n))
  double_by true e = rw e tt
  double_by false e = rw e (float_not_nan binary64 n e)

  pub double_no_nan : T (no_nan (double_case n))
  double_no_nan = double_by (nan_bits binary64 n) refl
