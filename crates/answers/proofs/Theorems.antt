-- One input, one outcome; answers by meaning; floats keep their bits.
-- Assumes nothing.
use mathlib.Core.Path.{◌≡◌, refl, sym, ap, ◌∙◌}
use mathlib.Core.Bool.{Bool, true, false}
use Prim.Native.Nat.{ℕ, ◌^◌, ◌<◌}
use lib.Ieee.{binary32, binary64, nan_bits}
use lib.Ieee.Bits.{to_bits-of_bits}
use Rattle.std.proofs.Common.{Result, Ok, Err}
use Rattle.refusal.specs.declared.Refusal.{Refusal}
use Rattle.refusal.specs.Numbers.{number_for, refusal_of}
use Rattle.refusal.proofs.Numbers.{same_refusal}
use Rattle.table.specs.Rows.{Table}
use Rattle.value.specs.declared.Value.{Value}
use Rattle.value.specs.Said.{FieldSaid, single, double}
use Rattle.record.specs.Answer.{answer_says, case_for, Answers}
use Rattle.record.specs.Calls.{body_field, sub_field, sub_block, sub_place, sub_block_refusal}
use Rattle.answers.specs.Theorems.{OneAnswer, AllByMeaning, FloatsKept}
use Rattle.value.proofs.Floats.{float_not_nan}
use Rattle.record.proofs.Fields.{same}

one : (r s : Result Value Refusal) (said : FieldSaid) → Answers r said → Answers s said → r ≡ s
one r s said p q = p.case ∙ sym q.case

one_handed : (r s : Result (Unit {0}) Refusal) → refusal_of r ≡ refusal_of s → r ≡ s
one_handed (Err x) (Err y) e = let n : number_for x ≡ number_for y = cc in ap Err (same_refusal x y n)
one_handed (Err x) (Ok v) e = cc
one_handed (Ok u) (Err y) e = cc
one_handed (Ok u) (Ok v) e = refl

pub one_answer : OneAnswer
one_answer = record { answers = one; handed = one_handed }

pub by_meaning : AllByMeaning
by_meaning t u e b =
    record {
      body = λ i r s p q. one r s _ p (same (ap (λ (x : Table). body_field x b i) (sym e)) q);
      sub = λ k j r s p q. one r s _ p (same (ap (λ (x : Table). sub_field x b k j) (sym e)) q);
      part = λ k. ap (λ (x : Table). sub_block x b k) e;
      place = λ k. ap (λ (x : Table). sub_place x b k) e;
      twin = λ k. ap (λ (x : Table). sub_block_refusal x b k) e;
    }

single_by : (b : ℕ) → b < 256 ^ 4 → (x : Bool) → nan_bits binary32 b ≡ x → answer_says (case_for (single b)) ≡ single b
single_by b h true e = rw e
single_by b h false e = rw e (ap single (to_bits-of_bits binary32 b h (float_not_nan binary32 b e)))

double_by : (b : ℕ) → b < 256 ^ 8 → (x : Bool) → nan_bits binary64 b ≡ x → answer_says (case_for (double b)) ≡ double b
double_by b h true e = rw e
double_by b h false e = rw e (ap double (to_bits-of_bits binary64 b h (float_not_nan binary64 b e)))

pub floats_kept : FloatsKept
floats_kept =
    record {
      single_bits = λ b h. single_by b h (nan_bits binary32 b) refl;
      double_bits = λ b h. double_by b h (nan_bits binary64 b) refl;
      single_nan = λ b r p e. p.case ∙ rw e;
      single_float = λ b r p e. p.case ∙ rw e;
      double_nan = λ b r p e. p.case ∙ rw e;
      double_float = λ b r p e. p.case ∙ rw e;
    }
