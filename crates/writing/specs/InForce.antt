-- What is written reads back (rule W20) by the state and the store that Write was given: the record calls of the same reader.
-- Assumes nothing.
use Rattle.std.specs.Prelude.{ℕ, List, ◌≡◌, length, get_or, take, None, Some}
use Rattle.table.specs.Lists.{pick}
use Rattle.table.specs.Rows.{BlockRow}
use Rattle.table.specs.Decode.{decode}
use Rattle.table.specs.Lookup.{find_row}
use Rattle.value.specs.Said.{field_refused}
use Rattle.draft.specs.Draft.{Draft}
use Rattle.writer.specs.Write.{wrote}
use Rattle.writes.specs.Calls.{write_of}
use Rattle.records.specs.Calls.{table_in_force, tow_of, wnc_of, body_of, sub_of, sub_bytes_refusal}
use Rattle.reader.specs.declared.State.{State}
use Rattle.writing.specs.Theorems.{said_back, row_back, sub_back, part_back, body_given}

-- b is a block that Write made of a draft: as many bytes at the start of the buffer as it answered
pub record MadeInForce (s : State) (force : List ℕ) (d : Draft) (buffer b : List ℕ) : Type 0 where
  pub answer : (write_of s force d buffer).said ≡ wrote (length b)
  pub front : take (length b) (write_of s force d buffer).buffer ≡ b

pub record ReadsBackInForce (s : State) (force : List ℕ) (r : BlockRow) (d : Draft) (b : List ℕ) : Type 0 where
  pub found : find_row (decode (table_in_force s force)) d.number ≡ Some r
  pub tow : tow_of s b ≡ said_back d.tow
  pub wnc : wnc_of s b ≡ said_back d.wnc
  -- N and SBLength are among these
  pub body : (i : ℕ) → body_of s force b i ≡ row_back d.revision (pick r.body i) (get_or (body_given r d) i None)
  pub sub : (k j : ℕ) → sub_of s force b k j ≡ sub_back d.revision (pick r.subs j) j (pick d.subs k)
  pub part : (k : ℕ) → sub_bytes_refusal s force b k ≡ part_back (pick d.subs k)
  -- no call is refused but with 9
  pub tow_given : (n : ℕ) → tow_of s b ≡ field_refused n → ⊥
  pub wnc_given : (n : ℕ) → wnc_of s b ≡ field_refused n → ⊥
  pub body_nine : (i n : ℕ) → body_of s force b i ≡ field_refused n → n ≡ 9
  pub sub_nine : (k j n : ℕ) → sub_of s force b k j ≡ field_refused n → n ≡ 9

abbrev pub AllReadBackInForce : Type 0
AllReadBackInForce =
    (s : State) (force : List ℕ) (d : Draft) (buffer b : List ℕ) → MadeInForce s force d buffer b
    → (r : BlockRow) × ReadsBackInForce s force r d b
