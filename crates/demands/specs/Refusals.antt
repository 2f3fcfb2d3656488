-- The refusals (rules R1 to R13, R20): when each number is given, as propositions in the rules' words, and each call's numbers in their
-- order. They are written apart from the tests of the code's definitions, the block's numbers among them (`block_number` to `SBLength`): a
-- second rendering is wanted here, so that `demand_1` fails where code and definitions of the crates `block`, `entry` and `draft` are wrong
-- alike. Shared is what the conditions speak of: `table_ok`, `next_table`, `table_in_force` and `decode`, `settle` and `rest_of`, where the
-- header's numbers stand, the CRC, which rows are of which level and which is N2's, where a field ends, what it says, how its bits are read, and
-- which of them are Do-Not-Use. The walk (T21) is rendered anew: from where one sub-block starts to where the next does.
-- Assumes nothing.
use Rattle.std.specs.Prelude.{ℕ, zero, suc, ◌+◌, ◌*◌, ◌%◌, ◌/◌, ◌^◌, ◌≤◌, ◌<◌, ◌≡◌, true, false, List, [], ◌∷◌, ◌⊎◌, length, get_or, take, drop, ℤ, pos, negsuc, Option, None, Some, IsSome}
use Rattle.crc.specs.Crc.{crc_of}
use Rattle.frame.specs.Frame.{crc_at, id_at, length_at}
use Rattle.frame.specs.Judge.{judged}
use Rattle.scan.specs.Settle.{settle}
use Rattle.feed.specs.Hold.{rest_of}
use Rattle.kinds.specs.Types.{size_of, half}
use Rattle.kinds.specs.Marks.{is_do_not_use}
use Rattle.rows.specs.declared.FieldRow.{FieldRow}
use Rattle.table.specs.Lists.{pick}
use Rattle.table.specs.Rows.{BlockRow, Table, ends, first_rows, second_rows, nested_row}
use Rattle.table.specs.Decode.{decode}
use Rattle.table.specs.Rules.{table_ok}
use Rattle.value.specs.Said.{FieldSaid, unsigned, signed, single, double, do_not_use, not_in_revision, field_refused}
use Rattle.value.specs.Bits.{read_as}
use Rattle.block.specs.Block.{offset_of}
use Rattle.record.specs.Calls.{field_said}
use Rattle.entry.specs.Wanted.{Wanted}
use Rattle.draft.specs.Draft.{Draft}
use Rattle.tables.specs.Calls.{next_table}
use Rattle.records.specs.Calls.{table_in_force}
use Rattle.reader.specs.State.{ceiling_of}
use Rattle.reader.specs.declared.Phase.TheVariants.{Closed, Feeding}
use Rattle.reader.specs.declared.State.{State}
use Rattle.demands.specs.World.{World, stage, withdraw, bytes, body, sub, sub_bytes, sub2, range, range2, tow, wnc, write, Call, open_run, feed, finish, table, look}

-- ---- buffers, state and table

-- R1: a lent buffer is too short
abbrev pub ShortHold : List ℕ → Type 0
ShortHold hold = length hold < 65536

abbrev pub ShortStore : List ℕ → Type 0
ShortStore store = length store < 8192

-- F16: no ceiling
abbrev pub NoCeiling : ℕ → Type 0
NoCeiling c = (c % 4 ≡ 0 → ⊥) ⊎ (c < 16) ⊎ (65532 < c)

-- R1: a number in the state is too large, or its ceiling is none
abbrev pub BadState : State → Type 0
BadState s =
    (65532 < s.run.held)
    ⊎ (s.run.counts.taken < s.run.held)
    ⊎ (s.run.held < s.run.standing)
    ⊎ (8192 < s.in_force)
    ⊎ (8192 < s.waiting)
    ⊎ (4294967295 < s.run.counts.taken)
    ⊎ (s.run.counts.taken < s.run.counts.blocks)
    ⊎ (s.run.counts.taken < s.run.counts.skipped)
    ⊎ NoCeiling (ceiling_of s)

-- R3: a byte is offered to a full run that has no block to report; the standing one does not count
pub record Full (s : State) (hold piece : List ℕ) : Type 0 where
  pub all : 4294967295 ≤ s.run.counts.taken
  pub no_block : (settle (judged (ceiling_of s)) (rest_of hold s.run.held s.run.standing)).standing ≡ None
  pub some_byte : 0 < length piece

-- R4: one of T1 to T20 is broken
abbrev pub Breaks : List ℕ → Type 0
Breaks t = table_ok t ≡ false

-- ---- the block given to a record call

-- F8, F16: a frame stands at the place p of the run w, read with the ceiling c
pub record FrameStands (c : ℕ) (w : List ℕ) (p : ℕ) : Type 0 where
  -- F2: the sync pair
  pub sync₀ : get_or w p 0 ≡ 0x24
  pub sync₁ : get_or w (p + 1) 0 ≡ 0x40
  -- F4: the length is allowed; F5: the run has all of the frame
  pub multiple : length_at w p % 4 ≡ 0
  pub eight : 8 ≤ length_at w p
  pub not_above : length_at w p ≤ c
  pub within : p + length_at w p ≤ length w
  -- F6: the CRC is right
  pub crc : crc_at w p ≡ crc_of (drop (p + 4) (take (p + length_at w p) w))

-- R10: exactly one frame: it stands at place 0 and has all the bytes; record calls have a ceiling of their own (C17)
pub record OneFrame (b : List ℕ) : Type 0 where
  pub stands : FrameStands 65532 b 0
  pub all : length_at b 0 ≡ length b

-- F9: the low thirteen bits of its ID, and the other three
abbrev pub block_number : List ℕ → ℕ
block_number b = id_at b 0 % 8192

abbrev pub block_revision : List ℕ → ℕ
block_revision b = id_at b 0 / 8192

-- F3: L, at 6
abbrev pub L : List ℕ → ℕ
L b = length_at b 0

-- T16, T20: the bytes at 14 and 15, of one level N and SBLength, of two N1 and SB1Length; and the byte at 16
abbrev pub N : List ℕ → ℕ
N b = get_or b 14 0

abbrev pub SBLength : List ℕ → ℕ
SBLength b = get_or b 15 0

abbrev pub SB2Length : List ℕ → ℕ
SB2Length b = get_or b 16 0

-- ---- its row in the table

-- x is one of xs
abbrev pub Among : {A : Type 0} → List A → A → Type 0
Among xs x = (i : ℕ) × (pick xs i ≡ Some x)

-- r is a row of the table, of this number
pub record RowOf (t : Table) (number : ℕ) (r : BlockRow) : Type 0 where
  pub among : Among t.rows r
  pub same : r.number ≡ number

-- P of that row
abbrev pub OfRow : Table → ℕ → (BlockRow → Type 0) → Type 0
OfRow t number P = (r : BlockRow) × (RowOf t number r × P r)

-- V5: a field among these that the revision carries ends past n
abbrev pub EndsPast : List FieldRow → ℕ → ℕ → Type 0
EndsPast fs revision n = (f : FieldRow) × (Among fs f × ((f.first ≤ revision) × (n < ends f)))

-- ---- the conditions on it

-- R6: the table has no row of the number
abbrev pub NotInTable : Table → ℕ → Type 0
NotInTable t number = (r : BlockRow) → RowOf t number r → ⊥

-- R7: a carried body field is cut off, or TOW or WNc is
abbrev pub BodyDoesNotFit : Table → List ℕ → Type 0
BodyDoesNotFit t b = OfRow t (block_number b) (λ r. EndsPast r.body (block_revision b) (L b)) ⊎ (L b < 14)

-- R8, of one level: sub-blocks are too short for a carried sub-field, or the block is too short for them
abbrev pub OneLevelDoesNotFit : List ℕ → BlockRow → Type 0
OneLevelDoesNotFit b r =
    (0 < length r.subs) × (((0 < N b) × EndsPast r.subs (block_revision b) (SBLength b)) ⊎ (L b < 16 + N b * SBLength b))

-- T21: where first-level sub-block k starts; with so many of them, where the walk ends
abbrev pub start_of : BlockRow → List ℕ → ℕ → ℕ
start_of r b zero = 20
start_of r b (suc k) =
    let at = start_of r b k in
    at + SBLength b + get_or b (at + offset_of (nested_row r)) 0 * SB2Length b

-- T21: its N2
abbrev pub N2 : BlockRow → List ℕ → ℕ → ℕ
N2 r b k = get_or b (start_of r b k + offset_of (nested_row r)) 0

-- R8, of two levels: the walk starts or ends past L, or the sub-blocks of a level that has any are too short for a carried field of its own
abbrev pub TwoLevelsDoNotFit : List ℕ → BlockRow → Type 0
TwoLevelsDoNotFit b r =
    (L b < 20)
    ⊎ (L b < start_of r b (N b))
    ⊎ ((0 < N b) × EndsPast (first_rows r) (block_revision b) (SBLength b))
    ⊎ (((k : ℕ) × ((k < N b) × (0 < N2 r b k))) × EndsPast (second_rows r) (block_revision b) (SB2Length b))

-- R8
abbrev pub SubsDoNotFit : Table → List ℕ → Type 0
SubsDoNotFit t b =
    OfRow t (block_number b) (λ r. ((r.firsts ≡ 0) × OneLevelDoesNotFit b r) ⊎ ((0 < r.firsts) × TwoLevelsDoNotFit b r))

-- R9: no field has the number
abbrev pub NoField : List FieldRow → ℕ → Type 0
NoField fs i = length fs ≤ i

-- R9: no sub-block has the number; by a row without sub-fields none is there
abbrev pub NoSubBlock : List ℕ → ℕ → BlockRow → Type 0
NoSubBlock b k r = (length r.subs ≡ 0) ⊎ (N b ≤ k)

-- R9: no second-level sub-block has the numbers; by a row of one level none is there
abbrev pub NoSecond : List ℕ → ℕ → ℕ → BlockRow → Type 0
NoSecond b k m r = (r.firsts ≡ 0) ⊎ (N b ≤ k) ⊎ (N2 r b k ≤ m)

-- R9: in these bytes no field of this number among the rows is of the type and answers an unsigned number
abbrev pub NoNumber : List ℕ → List ℕ → List FieldRow → ℕ → ℕ → Type 0
NoNumber b s rows i kind =
    (f : FieldRow) → pick rows i ≡ Some f → f.kind ≡ kind → (n : ℕ) → field_said (block_revision b) s f ≡ unsigned n → ⊥

-- T21: the bytes of a first-level sub-block, and of one nested in it
abbrev pub first_bytes : BlockRow → List ℕ → ℕ → List ℕ
first_bytes r b k = take (SBLength b) (drop (start_of r b k) b)

abbrev pub second_bytes : BlockRow → List ℕ → ℕ → ℕ → List ℕ
second_bytes r b k m = take (SB2Length b) (drop (start_of r b k + SBLength b + m * SB2Length b) b)

-- R9, V11: no MeasEpoch of two levels with such a sub-block whose Misc (3, a u1) and CodeLSB (4, a u4) are numbers
abbrev pub NoRange : List ℕ → ℕ → BlockRow → Type 0
NoRange b k r =
    (block_number b ≡ 4027 → ⊥)
    ⊎ (r.firsts ≡ 0)
    ⊎ (N b ≤ k)
    ⊎ NoNumber b (first_bytes r b k) (first_rows r) 3 1
    ⊎ NoNumber b (first_bytes r b k) (first_rows r) 4 3

-- R9, V12: or no one nested in it whose OffsetsMSB (3, a u1) and CodeOffsetLSB (6, a u2) are numbers
abbrev pub NoRange2 : List ℕ → ℕ → ℕ → BlockRow → Type 0
NoRange2 b k m r =
    NoRange b k r
    ⊎ (N2 r b k ≤ m)
    ⊎ NoNumber b (second_bytes r b k m) (second_rows r) 3 1
    ⊎ NoNumber b (second_bytes r b k m) (second_rows r) 6 2

-- R10: they are not one frame
abbrev pub NoWholeFrame : List ℕ → Type 0
NoWholeFrame b = OneFrame b → ⊥

-- ---- the draft given to Write

-- V1: a number with sign is below -h, or from h on
abbrev pub OutOfHalf : ℕ → ℤ → Type 0
OutOfHalf h (pos n) = h ≤ n
OutOfHalf h (negsuc n) = h < suc n

-- V1, W5: a value of another kind than the type, or out of its range
abbrev pub NoneOfType : ℕ → FieldSaid → Type 0
NoneOfType kind (unsigned n) = (kind < 1) ⊎ (4 < kind) ⊎ (256 ^ size_of kind ≤ n)
NoneOfType kind (signed z) = (kind < 5) ⊎ (8 < kind) ⊎ OutOfHalf (half (size_of kind)) z
NoneOfType kind (single b) = (kind ≡ 9 → ⊥) ⊎ (2 ^ 32 ≤ b)
NoneOfType kind (double b) = (kind ≡ 10 → ⊥) ⊎ (2 ^ 64 ≤ b)
NoneOfType kind do_not_use = Unit {0}
NoneOfType kind not_in_revision = Unit {0}
NoneOfType kind (field_refused n) = Unit {0}

-- V4, W5: bits of the field read as the value, and are Do-Not-Use by its mark
abbrev pub ReadsDoNotUse : FieldRow → FieldSaid → Type 0
ReadsDoNotUse f said =
    (x : ℕ) × ((x < 256 ^ size_of f.kind) × ((read_as f.kind x ≡ said) × (is_do_not_use f.mark f.kind x ≡ true)))

-- W5: what is not allowed of a field: to be unset where it is carried and has no mark; a value where it is not carried, or one that is
-- none of its own
abbrev pub NotAllowed : ℕ → FieldRow → Wanted → Type 0
NotAllowed revision f None = (f.first ≤ revision) × (f.mark ≡ 0)
NotAllowed revision f (Some said) = (revision < f.first) ⊎ NoneOfType f.kind said ⊎ ReadsDoNotUse f said

-- V8: TOW is a u4 and WNc a u2, with mark 1
abbrev pub tow_field : FieldRow
tow_field = record { offset = 8; kind = 3; first = 0; mark = 1 }

abbrev pub wnc_field : FieldRow
wnc_field = record { offset = 12; kind = 2; first = 0; mark = 1 }

-- W4: a value is set that has the number n or a higher one
abbrev pub SetFrom : ℕ → List Wanted → Type 0
SetFrom n ws = (i : ℕ) × ((n ≤ i) × IsSome (get_or ws i None))

-- W4, W5: value i is not allowed of row i, or one past the last row is set; a value that the list lacks is unset
abbrev pub ListNotAllowed : ℕ → List FieldRow → List Wanted → Type 0
ListNotAllowed revision fs ws =
    ((i : ℕ) × ((f : FieldRow) × ((pick fs i ≡ Some f) × NotAllowed revision f (get_or ws i None)))) ⊎ SetFrom (length fs) ws

-- R11: of a row with sub-fields, and of one without
abbrev pub WithSubFields : BlockRow → Draft → Type 0
WithSubFields r d =
    (255 < length d.subs)
    ⊎ SetFrom 0 d.body
    ⊎ ((ws : List Wanted) × (Among d.subs ws × ListNotAllowed d.revision r.subs ws))

abbrev pub WithoutSubFields : BlockRow → Draft → Type 0
WithoutSubFields r d = (0 < length d.subs) ⊎ ListNotAllowed d.revision r.body d.body

-- R11: it cannot stand in a block of the row
abbrev pub CannotStand : BlockRow → Draft → Type 0
CannotStand r d =
    (7 < d.revision)
    ⊎ NotAllowed d.revision tow_field d.tow
    ⊎ NotAllowed d.revision wnc_field d.wnc
    ⊎ ((0 < length r.subs) × WithSubFields r d)
    ⊎ ((length r.subs ≡ 0) × WithoutSubFields r d)

-- W7, W9: n bytes hold the block, with m bytes for each sub-block
pub record HoldsBlock (r : BlockRow) (d : Draft) (m n : ℕ) : Type 0 where
  pub stamps : 14 ≤ n
  pub body : EndsPast r.body d.revision n → ⊥
  pub inner : 0 < length d.subs → EndsPast r.subs d.revision m → ⊥
  pub subs : 0 < length d.subs → 16 + length d.subs * m ≤ n

-- W9: the block is longer than n: no multiple of 4 up to there holds it
abbrev pub LongerThan : BlockRow → Draft → ℕ → Type 0
LongerThan r d n = (m k : ℕ) → HoldsBlock r d m k → k % 4 ≡ 0 → k ≤ n → ⊥

-- R12: it is longer than the buffer, which has n bytes, or than the ceiling c; or, by W7, its SBLength is above 255
abbrev pub HasNoRoom : ℕ → ℕ → BlockRow → Draft → Type 0
HasNoRoom c n r d = LongerThan r d n ⊎ LongerThan r d c ⊎ ((0 < length d.subs) × EndsPast r.subs d.revision 255)

-- ---- R20: the numbers of a call, in their order

pub record Due : Type 1 where
  pub number : ℕ
  pub condition : Type 0

infix 80 ◌when◌
abbrev pub ◌when◌ : ℕ → Type 0 → Due
n when P = record { number = n; condition = P }

abbrev pub Order : Type 1
Order = List Due

-- n is given: its condition holds, and none of those before it does
abbrev pub Given : Order → ℕ → Type 0
Given [] n = ⊥
Given (d ∷ ds) n = ((d.number ≡ n) × d.condition) ⊎ ((d.condition → ⊥) × Given ds n)

-- refused with n exactly when n is given; so a number outside the order never is
pub record Exactly (o : Option ℕ) (order : Order) : Type 0 where
  pub gives : (n : ℕ) → o ≡ Some n → Given order n
  pub given : (n : ℕ) → Given order n → o ≡ Some n

-- R20: Body, Sub, Subbytes, Sub2, Range and Range2; 9's condition is each call's own, of the block's row. R5: no table is in force
abbrev pub record_order : World → List ℕ → (BlockRow → Type 0) → Order
record_order w b Nine =
    let t = decode (table_in_force w.state w.force) in
    1 when (BadState w.state ⊎ ShortStore w.force)
    ∷ 5 when (w.state.in_force ≡ 0)
    ∷ 4 when Breaks (table_in_force w.state w.force)
    ∷ 10 when NoWholeFrame b
    ∷ 6 when NotInTable t (block_number b)
    ∷ 7 when BodyDoesNotFit t b
    ∷ 8 when SubsDoNotFit t b
    ∷ 9 when OfRow t (block_number b) Nine
    ∷ []

-- R20: Tow and Wnc, which are lent nothing and read no table
abbrev pub stamp_order : World → List ℕ → Order
stamp_order w b = 1 when BadState w.state ∷ 10 when NoWholeFrame b ∷ 7 when (L b < 14) ∷ []

-- R20: Write, which is lent the in-force store; it writes by a row of one level alone; of the buffer that it writes 1 asks nothing
abbrev pub write_order : World → Draft → List ℕ → Order
write_order w d buffer =
    let t = decode (table_in_force w.state w.force) in
    1 when (BadState w.state ⊎ ShortStore w.force)
    ∷ 5 when (w.state.in_force ≡ 0)
    ∷ 4 when Breaks (table_in_force w.state w.force)
    ∷ 6 when (NotInTable t d.number ⊎ OfRow t d.number (λ r. 0 < r.firsts))
    ∷ 11 when OfRow t d.number (λ r. CannotStand r d)
    ∷ 12 when OfRow t d.number (λ r. HasNoRoom (ceiling_of w.state) (length buffer) r d)
    ∷ []

-- R20: all calls, each by the buffers that it is lent (C3). R2 asks for the phase, R5 for a table of either kind
abbrev pub order : Call → World → Order
order (open_run x) w =
    1 when (BadState w.state ⊎ ShortStore w.force ⊎ ShortStore w.wait)
    ∷ 2 when (w.state.run.phase ≡ Closed → ⊥)
    ∷ 13 when NoCeiling x.ceiling
    ∷ 5 when ((w.state.waiting ≡ 0) × (w.state.in_force ≡ 0))
    ∷ 4 when Breaks (next_table w.state w.force w.wait)
    ∷ []
order (feed piece) w =
    1 when (BadState w.state ⊎ ShortHold w.hold)
    ∷ 2 when (w.state.run.phase ≡ Feeding → ⊥)
    ∷ 3 when Full w.state w.hold piece
    ∷ []
order finish w = 1 when (BadState w.state ⊎ ShortHold w.hold) ∷ 2 when (w.state.run.phase ≡ Closed) ∷ []
order (look bytes) w = 1 when (BadState w.state ⊎ ShortHold w.hold) ∷ []
order (table withdraw) w = 1 when BadState w.state ∷ []
order (table (stage t)) w = 1 when (BadState w.state ⊎ ShortStore w.wait) ∷ 4 when Breaks t ∷ []
order (look (body b i)) w = record_order w b (λ r. NoField r.body i)
order (look (sub b k j)) w = record_order w b (λ r. NoSubBlock b k r ⊎ NoField (first_rows r) j)
order (look (sub_bytes b k)) w = record_order w b (NoSubBlock b k)
order (look (sub2 b k m j)) w = record_order w b (λ r. NoSecond b k m r ⊎ NoField (second_rows r) j)
order (look (range b k)) w = record_order w b (NoRange b k)
order (look (range2 b k m)) w = record_order w b (NoRange2 b k m)
order (look (tow b)) w = stamp_order w b
order (look (wnc b)) w = stamp_order w b
order (look (write d buffer)) w = write_order w d buffer
