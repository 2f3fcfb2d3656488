-- Theorems about the answers of record calls (rules D4, V2).
-- Assumes nothing.
use Rattle.std.specs.Prelude.{ℕ, ◌^◌, ◌<◌, ◌≡◌, List, true, false, Result, Ok}
use Rattle.std.specs.Float.{binary32, binary64}
use Rattle.std.specs.Float.Ieee.{nan_bits, of_bits}
use Rattle.refusal.specs.declared.Refusal.{Refusal}
use Rattle.refusal.specs.Numbers.{refusal_of}
use Rattle.table.specs.Decode.{decode}
use Rattle.value.specs.declared.Value.{Value}
use Rattle.value.specs.declared.Value.TheVariants.{Single, Double, SingleNan, DoubleNan}
use Rattle.value.specs.Said.{FieldSaid, single, double}
use Rattle.record.specs.Answer.{answer_says, case_for, Answers}
use Rattle.record.specs.Calls.{body_field, sub_field, sub_block, sub_place, sub_block_refusal}

-- D4: what is to be said fixes the answer, its case too
pub record OneAnswer : Type 0 where
  pub answers : (r s : Result Value Refusal) (said : FieldSaid) → Answers r said → Answers s said → r ≡ s
  pub handed : (r s : Result (Unit {0}) Refusal) → refusal_of r ≡ refusal_of s → r ≡ s

-- D2: the answers are those of the decoded table, so two tables that mean the same give the same
pub record ByMeaning (t u b : List ℕ) : Type 0 where
  pub body : (i : ℕ) (r s : Result Value Refusal) → Answers r (body_field (decode t) b i) → Answers s (body_field (decode u) b i) → r ≡ s
  pub sub : (k j : ℕ) (r s : Result Value Refusal) → Answers r (sub_field (decode t) b k j) → Answers s (sub_field (decode u) b k j) → r ≡ s
  pub part : (k : ℕ) → sub_block (decode t) b k ≡ sub_block (decode u) b k
  pub place : (k : ℕ) → sub_place (decode t) b k ≡ sub_place (decode u) b k
  pub twin : (k : ℕ) → sub_block_refusal (decode t) b k ≡ sub_block_refusal (decode u) b k

abbrev pub AllByMeaning : Type 0
AllByMeaning = (t u : List ℕ) → decode t ≡ decode u → (b : List ℕ) → ByMeaning t u b

-- V2: the case for any bits says these bits; it is the case with a float exactly where they are no NaN's
pub record FloatsKept : Type 0 where
  pub single_bits : (b : ℕ) → b < 256 ^ 4 → answer_says (case_for (single b)) ≡ single b
  pub double_bits : (b : ℕ) → b < 256 ^ 8 → answer_says (case_for (double b)) ≡ double b
  pub single_nan : (b : ℕ) (r : Result Value Refusal) → Answers r (single b) → nan_bits binary32 b ≡ true → r ≡ Ok (SingleNan b)
  pub single_float : (b : ℕ) (r : Result Value Refusal) → Answers r (single b) → nan_bits binary32 b ≡ false → r ≡ Ok (Single (of_bits binary32 b))
  pub double_nan : (b : ℕ) (r : Result Value Refusal) → Answers r (double b) → nan_bits binary64 b ≡ true → r ≡ Ok (DoubleNan b)
  pub double_float : (b : ℕ) (r : Result Value Refusal) → Answers r (double b) → nan_bits binary64 b ≡ false → r ≡ Ok (Double (of_bits binary64 b))
