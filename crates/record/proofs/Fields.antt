-- What a field says, case by case, that it carries no NaN as a float, and where it ends.
-- Assumes nothing.
use mathlib.Core.Path.{◌≡◌, refl, sym, ap, ◌∙◌, subst}
use mathlib.Core.List.{List}
use mathlib.Core.Bool.{true, false}
use Rattle.std.proofs.Common.{Result, Ok, Err}
use Prim.Native.Nat.{ℕ, ◌<◌, ◌≤◌}
use lib.Dec.{T}
use lib.ListN.{length}
use borrow.Author.Tests.{le-leb, lt-leb}
use Rattle.frame.specs.Frame.{whole_frame}
use Rattle.refusal.specs.declared.Refusal.{Refusal}
use Rattle.refusal.specs.declared.Refusal.TheVariants.{TooShort, NotOneFrame}
use Rattle.rows.specs.declared.FieldRow.{FieldRow}
use Rattle.value.specs.declared.Value.{Value}
use Rattle.value.specs.declared.Value.TheVariants.{Unsigned, Signed, Single, Double, SingleNan, DoubleNan, DoNotUse, NotInRevision}
use Rattle.value.specs.Said.{FieldSaid, unsigned, signed, single, double, do_not_use, not_in_revision, field_refused, value_says, in_case, Means}
use Rattle.value.specs.Bits.{field_value}
use Rattle.value.proofs.Floats.{single_no_nan, double_no_nan}
use Rattle.record.specs.Answer.{case_for, Answers, no_nan_in}
use Rattle.record.specs.Calls.{field_said, stamp}

-- an answer to what is said is one to what is the same
pub same : {r : Result Value Refusal} {a b : FieldSaid} → a ≡ b → Answers r a → Answers r b
same {r} e h = subst (Answers r) e h

-- a value in the case for what it says is the answer's case
in_case_lem : (v : Value) → Ok (in_case v) ≡ case_for (value_says v)
in_case_lem (Unsigned n) = refl
in_case_lem (Signed z) = refl
in_case_lem (Single f) = refl
in_case_lem (Double f) = refl
in_case_lem (SingleNan b) = refl
in_case_lem (DoubleNan b) = refl
in_case_lem DoNotUse = refl
in_case_lem NotInRevision = refl

pub answers : {v : Value} {said : FieldSaid} → Means v said → Answers (Ok v) said
answers {v} m = record { says = m.says; case = ap Ok m.case ∙ in_case_lem v ∙ ap case_for m.says }

case_no_nan : (said : FieldSaid) → T (no_nan_in (case_for said))
case_no_nan (unsigned n) = tt
case_no_nan (signed z) = tt
case_no_nan (single b) = single_no_nan b
case_no_nan (double b) = double_no_nan b
case_no_nan do_not_use = tt
case_no_nan not_in_revision = tt
case_no_nan (field_refused n) = tt

pub answers_no_nan : {r : Result Value Refusal} {said : FieldSaid} → Answers r said → T (no_nan_in r)
answers_no_nan {r} {said} h = subst (λ (x : Result Value Refusal). T (no_nan_in x)) (sym h.case) (case_no_nan said)

module _ (revision : ℕ) (s : List ℕ) (f : FieldRow) where
  pub not_carried : revision < f.first → Answers (Ok NotInRevision) (field_said revision s f)
  unfolding field_said
  not_carried h = rw (lt-leb f.first revision h) (record { says = refl; case = refl })

  pub carried_says : f.first ≤ revision → {v : Value} → Means v (field_value s f) → Answers (Ok v) (field_said revision s f)
  unfolding field_said
  carried_says h u = rw (le-leb f.first revision h) (answers u)

-- TOW and WNc
module _ (f : FieldRow) (b : List ℕ) where
  pub stamp_10 : whole_frame b ≡ false → Answers (Err NotOneFrame) (stamp f b)
  unfolding stamp
  stamp_10 e = rw e (record { says = refl; case = refl })

  pub stamp_7 : whole_frame b ≡ true → length b < 14 → Answers (Err TooShort) (stamp f b)
  unfolding stamp
  stamp_7 e h = rw (e, lt-leb 14 (length b) h) (record { says = refl; case = refl })

  pub stamp_says : whole_frame b ≡ true → 14 ≤ length b → {v : Value} → Means v (field_value b f) → Answers (Ok v) (stamp f b)
  unfolding stamp
  stamp_says e h u = rw (e, le-leb 14 (length b) h) (answers u)
