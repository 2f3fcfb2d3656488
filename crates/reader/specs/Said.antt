-- What a call answers, by the numbers and values of the rules (D9). How a block's report is read stands here, and how each answer
-- of the code is read beside its call; no two answers of one call read the same.
-- Assumes nothing.
use Rattle.std.specs.Prelude.{ℕ, Bool, Option, Result, Ok, Err}
use Rattle.refusal.specs.Numbers.{number_for}
pub use Rattle.refusal.specs.Numbers.{refusal_of}
use Rattle.refusal.specs.declared.Refusal.{Refusal}
use Rattle.reader.specs.declared.Block.{Block}
use Rattle.reader.specs.declared.Counts.{Counts}

-- C7: what is reported of a block
pub record Report : Type 0 where
  pub place : ℕ
  pub number : ℕ
  pub revision : ℕ
  pub size : ℕ

abbrev pub report_of : Block → Report
report_of b = record { place = b.place; number = b.number; revision = b.revision; size = b.length }

-- R21: any call may be refused, with a number; the others by their calls
pub data Said : Type 0 where
  refused : ℕ → Said
  -- Open: C5; Stage: C10
  version : ℕ → Said
  -- Feed: C7; none is More
  took : ℕ → Option Report → Said
  -- Finish: C8
  found : Report → Said
  ended : Counts → Said
  -- Withdraw: C11
  waited : Bool → Said

-- R21: an answer of the code, by how what it holds is read
abbrev pub said_of : {T : Type 0} → (T → Said) → Result T Refusal → Said
said_of read (Ok x) = read x
said_of read (Err r) = refused (number_for r)
