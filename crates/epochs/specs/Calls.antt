-- What the record calls on blocks of two levels answer (rule C16), after the refusals that come before those of the block itself (R20).
-- Assumes nothing.
use Rattle.std.specs.Prelude.{ℕ, List}
use Rattle.table.specs.Decode.{decode}
use Rattle.record.specs.Answer.{FieldSaid}
use Rattle.epoch.specs.Second.{second_field}
use Rattle.epoch.specs.Ranges.{range_field, range2_field}
use Rattle.reader.specs.declared.State.{State}
use Rattle.records.specs.Calls.{table_in_force, ask_refusal, said_unless}

-- C16: Sub2
unfoldable pub sub2_of : State → List ℕ → List ℕ → ℕ → ℕ → ℕ → FieldSaid
sub2_of s force block k m j = said_unless (ask_refusal s force) (second_field (decode (table_in_force s force)) block k m j)

-- C16: Range
unfoldable pub range_of : State → List ℕ → List ℕ → ℕ → FieldSaid
range_of s force block k = said_unless (ask_refusal s force) (range_field (decode (table_in_force s force)) block k)

-- C16: Range2
unfoldable pub range2_of : State → List ℕ → List ℕ → ℕ → ℕ → FieldSaid
range2_of s force block k m = said_unless (ask_refusal s force) (range2_field (decode (table_in_force s force)) block k m)
