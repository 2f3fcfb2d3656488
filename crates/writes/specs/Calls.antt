-- What Write answers and leaves (rule W1), by the table in force and the state's ceiling (C17); R20: 1, 5, 4 come before the refusals of
-- the draft itself.
-- Assumes nothing.
use Rattle.std.specs.Prelude.{ℕ, List, Option, None, Some}
use Rattle.table.specs.Decode.{decode}
use Rattle.draft.specs.Draft.{Draft}
use Rattle.writer.specs.Write.{WriteOutcome, refuses_write, written_of}
use Rattle.records.specs.Calls.{table_in_force, ask_refusal}
use Rattle.reader.specs.State.{ceiling_of}
use Rattle.reader.specs.declared.State.{State}

-- R21: what is written, unless the call is refused
abbrev pub written_unless : Option ℕ → List ℕ → WriteOutcome → WriteOutcome
written_unless (Some n) buffer o = refuses_write n buffer
written_unless None buffer o = o

-- W1
unfoldable pub write_of : State → List ℕ → Draft → List ℕ → WriteOutcome
write_of s force d buffer = written_unless (ask_refusal s force) buffer (written_of (ceiling_of s) (decode (table_in_force s force)) d buffer)
