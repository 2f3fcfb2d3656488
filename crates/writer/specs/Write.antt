-- What a draft comes to, by a decoded table and a ceiling (rule C17): an answer, and every byte of the buffer (W1, R20: 6, 11, 12).
-- Assumes nothing.
use Rattle.std.specs.Prelude.{ℕ, cond, List, length, Option, None, Some, Result, Ok, Err}
use Rattle.refusal.specs.Numbers.{number_for}
use Rattle.refusal.specs.declared.Refusal.{Refusal}
use Rattle.copy.specs.Over.{over}
use Rattle.table.specs.Rows.{BlockRow, Table, one_level}
use Rattle.table.specs.Lookup.{find_row}
use Rattle.draft.specs.Draft.{Draft, draft_ok, block_length, room_for}
use Rattle.writer.specs.Block.{block_bytes}

-- W1: the length of the block, or the number of a refusal
pub data WriteSaid : Type 0 where
  wrote : ℕ → WriteSaid
  write_refused : ℕ → WriteSaid

-- D4: the answer, and the caller's buffer
pub record WriteOutcome : Type 0 where
  pub said : WriteSaid
  pub buffer : List ℕ

abbrev pub write_outcome : WriteSaid → List ℕ → WriteOutcome
write_outcome a b = record { said = a; buffer = b }

-- R21: nothing is written
abbrev pub refuses_write : ℕ → List ℕ → WriteOutcome
refuses_write n buffer = write_outcome (write_refused n) buffer

-- R20: 6, 11, 12; W1: the block, and behind it what the buffer had
unfoldable pub written_by : ℕ → Option BlockRow → Draft → List ℕ → WriteOutcome
written_by c None d buffer = refuses_write 6 buffer
written_by c (Some r) d buffer =
    cond (draft_ok r d)
    (cond (room_for c r d (length buffer)) (write_outcome (wrote (block_length r d)) (over (block_bytes r d) buffer)) (refuses_write 12 buffer))
    (refuses_write 11 buffer)

-- R6, W1: the row to write by: one of one level
abbrev pub writable_row : Option BlockRow → Option BlockRow
writable_row None = None
writable_row (Some r) = cond (one_level r) (Some r) None

unfoldable pub written_of : ℕ → Table → Draft → List ℕ → WriteOutcome
written_of c tab d buffer = written_by c (writable_row (find_row tab d.number)) d buffer

-- D9: what the code's answer says
abbrev pub written_says : Result ℕ Refusal → WriteSaid
written_says (Ok n) = wrote n
written_says (Err r) = write_refused (number_for r)
