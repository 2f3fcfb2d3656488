-- The flight line: the story that started this (docs/RULES.md, before D1), told again with this reader. The release that arrives during the
-- line waits: field 5 stays roll to the end of the line, and is pitch in the next.
-- Assumes nothing.
use Rattle.std.specs.Prelude.{ℕ, ◌≡◌, List, [], ◌∷◌, map, Option, None, Some}
use Rattle.wire.specs.Little.{little_at}
use Rattle.table.specs.Lists.{pick}
use Rattle.record.specs.Answer.{single}
use Rattle.reader.specs.State.{default_settings}
use Rattle.demands.specs.World.{stage, bytes, body, open_run, feed, finish, table, look, Reply, part, value, Line, ◌⇒◌}
use Rattle.samples.specs.Transcript.{Transcript, replayed, version_is, block_is, end_is, report}

-- the table that the line is flown with, version 1: AttEuler (T31) without the Reserved row, so that field 5 is Roll
abbrev pub without_reserved : List ℕ
without_reserved =
    -- NrSV, Error, Mode
    14 ∷ 1 ∷ 0 ∷ 1
    ∷ 15 ∷ 1 ∷ 0 ∷ 0
    ∷ 16 ∷ 2 ∷ 0 ∷ 0
    -- Heading, Pitch, Roll
    ∷ 20 ∷ 9 ∷ 0 ∷ 3
    ∷ 24 ∷ 9 ∷ 0 ∷ 3
    ∷ 28 ∷ 9 ∷ 0 ∷ 3
    -- PitchDot, RollDot, HeadingDot
    ∷ 32 ∷ 9 ∷ 0 ∷ 3
    ∷ 36 ∷ 9 ∷ 0 ∷ 3
    ∷ 40 ∷ 9 ∷ 0 ∷ 3
    -- 5938, highest revision 0, nine body fields, first index 0, no sub-fields
    ∷ 0x32 ∷ 0x17 ∷ 0 ∷ 9 ∷ 0 ∷ 0 ∷ 0 ∷ 0
    -- version 1, one block row, 20 and 56 bytes back, CRC, 42 54
    ∷ 1 ∷ 0 ∷ 1 ∷ 0 ∷ 20 ∷ 0 ∷ 56 ∷ 0 ∷ 0xEA ∷ 0x3B ∷ 0x42 ∷ 0x54 ∷ []

-- the release, version 2: T31 as it is, with the Reserved row, so that field 5 is Pitch
abbrev pub with_reserved : List ℕ
with_reserved =
    -- NrSV, Error, Mode, Reserved
    14 ∷ 1 ∷ 0 ∷ 1
    ∷ 15 ∷ 1 ∷ 0 ∷ 0
    ∷ 16 ∷ 2 ∷ 0 ∷ 0
    ∷ 18 ∷ 2 ∷ 0 ∷ 0
    -- Heading, Pitch, Roll
    ∷ 20 ∷ 9 ∷ 0 ∷ 3
    ∷ 24 ∷ 9 ∷ 0 ∷ 3
    ∷ 28 ∷ 9 ∷ 0 ∷ 3
    -- PitchDot, RollDot, HeadingDot
    ∷ 32 ∷ 9 ∷ 0 ∷ 3
    ∷ 36 ∷ 9 ∷ 0 ∷ 3
    ∷ 40 ∷ 9 ∷ 0 ∷ 3
    -- 5938, highest revision 0, ten body fields, first index 0, no sub-fields
    ∷ 0x32 ∷ 0x17 ∷ 0 ∷ 10 ∷ 0 ∷ 0 ∷ 0 ∷ 0
    -- version 2, one block row, 20 and 60 bytes back, CRC, 42 54
    ∷ 2 ∷ 0 ∷ 1 ∷ 0 ∷ 20 ∷ 0 ∷ 60 ∷ 0 ∷ 0xD1 ∷ 0x33 ∷ 0x42 ∷ 0x54 ∷ []

-- an attitude of the aircraft, as AttEuler, revision 0, L = 44
abbrev pub attitude : List ℕ
attitude =
    -- sync, CRC, ID, Length; TOW 277,203,000, WNc 2380
    0x24 ∷ 0x40 ∷ 0x74 ∷ 0xDD ∷ 0x32 ∷ 0x17 ∷ 0x2C ∷ 0x00
    ∷ 0x38 ∷ 0xC8 ∷ 0x85 ∷ 0x10 ∷ 0x4C ∷ 0x09
    -- NrSV 14, Error 0, Mode 4, two bytes of 0 where the Reserved row points
    ∷ 0x0E ∷ 0x00 ∷ 0x04 ∷ 0x00 ∷ 0x00 ∷ 0x00
    -- Heading 90.0, Pitch 1.5, Roll -2.25
    ∷ 0x00 ∷ 0x00 ∷ 0xB4 ∷ 0x42
    ∷ 0x00 ∷ 0x00 ∷ 0xC0 ∷ 0x3F
    ∷ 0x00 ∷ 0x00 ∷ 0x10 ∷ 0xC0
    -- PitchDot 0.125, RollDot -0.5, HeadingDot 0.25
    ∷ 0x00 ∷ 0x00 ∷ 0x00 ∷ 0x3E
    ∷ 0x00 ∷ 0x00 ∷ 0x00 ∷ 0xBF
    ∷ 0x00 ∷ 0x00 ∷ 0x80 ∷ 0x3E ∷ []

-- the bits of 1.5 and of -2.25
abbrev pub pitch : ℕ
pitch = 0x3FC00000

abbrev pub roll : ℕ
roll = 0xC0100000

-- the story; its calls are counted from 0
abbrev pub flight : Transcript
flight =
    -- 0 to 3: the line is opened with the table without the row, and an attitude comes
    table (stage without_reserved) ⇒ version_is 1
    ∷ open_run default_settings ⇒ version_is 1
    ∷ feed attitude ⇒ block_is 44 (report 0 5938 0 44)
    ∷ look bytes ⇒ part None attitude
    -- 4: field 5 is roll
    ∷ look (body attitude 5) ⇒ value (single roll)
    -- 5, 6: the release lands during the line, is taken and waits; field 5 is roll as before
    ∷ table (stage with_reserved) ⇒ version_is 2 ∷ look (body attitude 5) ⇒ value (single roll)
    -- 7 to 9: the line ends; the next is opened with the release, and the same attitude comes
    ∷ finish ⇒ end_is 44 1 0
    ∷ open_run default_settings ⇒ version_is 2
    ∷ feed attitude ⇒ block_is 44 (report 0 5938 0 44)
    -- 10: now field 5 is pitch
    ∷ look (body attitude 5) ⇒ value (single pitch)
    ∷ []

-- what the definitions answer to call i of the story
abbrev pub answered : ℕ → Option Reply
answered i = pick (map (λ (x : Line). x.answer) (replayed flight)) i

pub record FlightLine : Type 0 where
  -- the definitions answer every call as the story has it
  pub story : replayed flight ≡ flight
  -- before and after the release landed: both times Roll's bits
  pub before : answered 4 ≡ Some (value (single roll))
  pub after : answered 6 ≡ answered 4
  -- in the next run: Pitch's bits, and these are others
  pub next : answered 10 ≡ Some (value (single pitch))
  pub differ : answered 6 ≡ answered 10 → ⊥
  -- the block has these bits at 28 and at 24, where both tables have Roll and Pitch
  pub roll_bits : little_at 4 attitude 28 ≡ roll
  pub pitch_bits : little_at 4 attitude 24 ≡ pitch
