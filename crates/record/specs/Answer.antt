-- What the code's answers say, by the rules' values and numbers (V7, D9); those of a value are the crate `value`'s, passed on here.
-- Assumes nothing.
use Rattle.std.specs.Prelude.{ℕ, ◌≡◌, Bool, true, Result, Ok, Err}
use Rattle.refusal.specs.declared.Refusal.{Refusal}
use Rattle.refusal.specs.Numbers.{number_for, refusal_numbered}
use Rattle.value.specs.Said.{no_nan}
use Rattle.value.specs.declared.Value.{Value}
use Rattle.value.specs.declared.Value.TheVariants.{Unsigned, Signed, DoNotUse, NotInRevision}
pub use Rattle.value.specs.Said.{FieldSaid, unsigned, signed, single, double, do_not_use, not_in_revision, field_refused, value_says, single_case, double_case}

-- what each case of the code's answer says
abbrev pub answer_says : Result Value Refusal → FieldSaid
answer_says (Ok v) = value_says v
answer_says (Err r) = field_refused (number_for r)

-- the case for what is to be said; for a float's bits it is that of the value
abbrev pub case_for : FieldSaid → Result Value Refusal
case_for (unsigned n) = Ok (Unsigned n)
case_for (signed z) = Ok (Signed z)
case_for (single b) = Ok (single_case b)
case_for (double b) = Ok (double_case b)
case_for do_not_use = Ok DoNotUse
case_for not_in_revision = Ok NotInRevision
case_for (field_refused n) = Err (refusal_numbered n)

-- an answer that says what is to be said, in the case for it
pub record Answers (r : Result Value Refusal) (said : FieldSaid) : Type 0 where
  pub says : answer_says r ≡ said
  pub case : r ≡ case_for said

-- a float that an answer carries is no NaN
abbrev pub no_nan_in : Result Value Refusal → Bool
no_nan_in (Ok v) = no_nan v
no_nan_in (Err r) = true
