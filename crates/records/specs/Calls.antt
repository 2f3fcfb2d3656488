-- What the record calls answer (rule C13), and the refusals that come before those of the block itself (R20).
-- Assumes nothing.
use Rattle.std.specs.Prelude.{ℕ, ◌&&◌, List, take, ltb, Option, None, Some}
use Rattle.table.specs.Decode.{decode}
use Rattle.rows.specs.declared.FieldRow.{FieldRow}
use Rattle.record.specs.Answer.{FieldSaid, field_refused}
use Rattle.walk.specs.declared.Span.{Span}
use Rattle.record.specs.Calls.{body_field, sub_field, sub_block, nowhere, sub_place, sub_block_refusal, tow_row, wnc_row, stamp}
use Rattle.reader.specs.State.{sound}
use Rattle.reader.specs.Refusals.{need, long_store, table_refusal}
use Rattle.reader.specs.Outcome.{part_unless}
use Rattle.reader.specs.declared.State.{State}

-- the table in force
abbrev pub table_in_force : State → List ℕ → List ℕ
table_in_force s force = take s.in_force force

-- R20: 1, 5, 4
unfoldable pub ask_refusal : State → List ℕ → Option ℕ
ask_refusal s force = need (sound s && long_store force) 1 (need (ltb 0 s.in_force) 5 (table_refusal (table_in_force s force)))

-- R21: what is said, unless the call is refused
abbrev pub said_unless : Option ℕ → FieldSaid → FieldSaid
said_unless (Some n) said = field_refused n
said_unless None said = said

-- C13: Body
unfoldable pub body_of : State → List ℕ → List ℕ → ℕ → FieldSaid
body_of s force block i = said_unless (ask_refusal s force) (body_field (decode (table_in_force s force)) block i)

-- C13: Sub
unfoldable pub sub_of : State → List ℕ → List ℕ → ℕ → ℕ → FieldSaid
sub_of s force block k j = said_unless (ask_refusal s force) (sub_field (decode (table_in_force s force)) block k j)

-- C13: Subbytes
unfoldable pub sub_bytes_of : State → List ℕ → List ℕ → ℕ → List ℕ
sub_bytes_of s force block k = part_unless (ask_refusal s force) (sub_block (decode (table_in_force s force)) block k)

-- C13, R22: where that part stands in the block; an empty one at its start where the call is refused
abbrev pub place_unless : Option ℕ → Span → Span
place_unless (Some n) s = nowhere
place_unless None s = s

unfoldable pub sub_place_of : State → List ℕ → List ℕ → ℕ → Span
sub_place_of s force block k = place_unless (ask_refusal s force) (sub_place (decode (table_in_force s force)) block k)

-- the first, or else the second
abbrev pub first_of : {A : Type 0} → Option A → Option A → Option A
first_of (Some x) rest = Some x
first_of None rest = rest

-- R22: the number that Subbytes is refused with, or none
unfoldable pub sub_bytes_refusal : State → List ℕ → List ℕ → ℕ → Option ℕ
sub_bytes_refusal s force block k = first_of (ask_refusal s force) (sub_block_refusal (decode (table_in_force s force)) block k)

-- C13, V8: Tow and Wnc, each by a row of its own and no table; R20's 1 comes first
unfoldable pub stamp_of : FieldRow → State → List ℕ → FieldSaid
stamp_of f s block = said_unless (need (sound s) 1 None) (stamp f block)

abbrev pub tow_of : State → List ℕ → FieldSaid
tow_of = stamp_of tow_row

abbrev pub wnc_of : State → List ℕ → FieldSaid
wnc_of = stamp_of wnc_row
