-- What is said of a field (rule V7), and what the code's values mean by it.
-- Assumes nothing.
use Rattle.std.specs.Prelude.{ℕ, ◌≡◌, Bool, true, not, cond, ℤ}
use Rattle.std.specs.Float.{binary32, binary64}
use Rattle.std.specs.Float.Ieee.{is_nan, nan_bits, of_bits, to_bits}
use Rattle.value.specs.declared.Value.{Value}
use Rattle.value.specs.declared.Value.TheVariants.{Unsigned, Signed, Single, Double, SingleNan, DoubleNan, DoNotUse, NotInRevision}

-- V7: what a field may answer; a float is said by its bits (V2)
pub data FieldSaid : Type 0 where
  unsigned : ℕ → FieldSaid
  signed : ℤ → FieldSaid
  single : ℕ → FieldSaid
  double : ℕ → FieldSaid
  do_not_use : FieldSaid
  not_in_revision : FieldSaid
  field_refused : ℕ → FieldSaid

-- D9: what each case of the code's value says
abbrev pub value_says : Value → FieldSaid
value_says (Unsigned n) = unsigned n
value_says (Signed z) = signed z
value_says (Single f) = single (to_bits binary32 f)
value_says (Double f) = double (to_bits binary64 f)
value_says (SingleNan b) = single b
value_says (DoubleNan b) = double b
value_says DoNotUse = do_not_use
value_says NotInRevision = not_in_revision

-- the case for a float's bits: the NaN cases for the bits of a NaN, of which no float can be made, and for no others
abbrev pub single_case : ℕ → Value
single_case b = cond (nan_bits binary32 b) (SingleNan b) (Single (of_bits binary32 b))

abbrev pub double_case : ℕ → Value
double_case b = cond (nan_bits binary64 b) (DoubleNan b) (Double (of_bits binary64 b))

-- a value in the case for what it says
abbrev pub in_case : Value → Value
in_case (Unsigned n) = Unsigned n
in_case (Signed z) = Signed z
in_case (Single f) = single_case (to_bits binary32 f)
in_case (Double f) = double_case (to_bits binary64 f)
in_case (SingleNan b) = single_case b
in_case (DoubleNan b) = double_case b
in_case DoNotUse = DoNotUse
in_case NotInRevision = NotInRevision

-- a value that says what is to be said, in the case for it
pub record Means (v : Value) (said : FieldSaid) : Type 0 where
  pub says : value_says v ≡ said
  pub case : v ≡ in_case v

-- a float that a value carries is no NaN: a NaN comes in a case of its own
abbrev pub no_nan : Value → Bool
no_nan (Unsigned n) = true
no_nan (Signed z) = true
no_nan (Single f) = not (is_nan f)
no_nan (Double f) = not (is_nan f)
no_nan (SingleNan b) = true
no_nan (DoubleNan b) = true
no_nan DoNotUse = true
no_nan NotInRevision = true
