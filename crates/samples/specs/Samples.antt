-- The samples S1 to S10 and S14, and the bytes of S11, as one table of cases; and blocks of S8 and S9 written by Write.
-- Each case is a transcript of calls on a new reader. To add one, add its lines to `cases`.
-- Assumes nothing.
use Rattle.std.specs.Prelude.{ℕ, ◌≡◌, List, [], ◌∷◌, ◌++◌, map, replicate, None, Some}
use Rattle.record.specs.Answer.{single, unsigned, do_not_use}
use Rattle.entry.specs.Wanted.{Wanted}
use Rattle.draft.specs.Draft.{Draft}
use Rattle.demands.specs.World.{stage, bytes, body, sub, sub_bytes, tow, wnc, write, Call, open_run, feed, finish, table, look, part, value, ◌⇒◌}
use Rattle.samples.specs.Transcript.{Transcript, replayed, version_is, refused_is, more_is, block_is, found_is, end_is, refusal_is, wrote_is, unwritten_is, report}
use Rattle.answers.specs.Samples.{sample_b, twelve}

-- S3
abbrev pub sample_c : List ℕ
sample_c = 0x24 ∷ 0x40 ∷ 0xA9 ∷ 0x88 ∷ 0x00 ∷ 0x00 ∷ 0x08 ∷ 0x00 ∷ []

-- S4: blocks of these ID bytes, with L = 8 and the CRC right
abbrev pub id3717 : List ℕ
id3717 = 0x24 ∷ 0x40 ∷ 0x9E ∷ 0x32 ∷ 0x37 ∷ 0x17 ∷ 0x08 ∷ 0x00 ∷ []

abbrev pub id3737 : List ℕ
id3737 = 0x24 ∷ 0x40 ∷ 0x58 ∷ 0xB4 ∷ 0x37 ∷ 0x37 ∷ 0x08 ∷ 0x00 ∷ []

abbrev pub id_ffff : List ℕ
id_ffff = 0x24 ∷ 0x40 ∷ 0x69 ∷ 0x0D ∷ 0xFF ∷ 0xFF ∷ 0x08 ∷ 0x00 ∷ []

-- S5: L = 4 and 9, with the CRC that F6 asks for
abbrev pub length4 : List ℕ
length4 = 0x24 ∷ 0x40 ∷ 0x00 ∷ 0x00 ∷ 0x00 ∷ 0x00 ∷ 0x04 ∷ 0x00 ∷ []

abbrev pub length9 : List ℕ
length9 = 0x24 ∷ 0x40 ∷ 0x91 ∷ 0x9E ∷ 0x00 ∷ 0x00 ∷ 0x09 ∷ 0x00 ∷ 0x00 ∷ []

-- S7: a header with L = 20, and then S2's bytes
abbrev pub sample_g : List ℕ
sample_g = 0x24 ∷ 0x40 ∷ 0x00 ∷ 0x00 ∷ 0x00 ∷ 0x00 ∷ 0x14 ∷ 0x00 ∷ sample_b

-- S14: a header with L = 60,000, and then S2's bytes
abbrev pub false_header : List ℕ
false_header = 0x24 ∷ 0x40 ∷ 0x00 ∷ 0x00 ∷ 0x00 ∷ 0x00 ∷ 0x60 ∷ 0xEA ∷ sample_b

-- the table that is read by: one row, for number 0
abbrev pub sample_file : List ℕ
sample_file =
    -- field 0: u2 at 14, mark 1; field 1: f4 at 16, mark 3
    14 ∷ 2 ∷ 0 ∷ 1
    ∷ 16 ∷ 9 ∷ 0 ∷ 3
    -- number 0, highest revision 0, two body fields, first index 0, no sub-fields
    ∷ 0 ∷ 0 ∷ 0 ∷ 2 ∷ 0 ∷ 0 ∷ 0 ∷ 0
    -- version 1, one block row, 20 and 28 bytes back, CRC, 42 54
    ∷ 1 ∷ 0 ∷ 1 ∷ 0 ∷ 20 ∷ 0 ∷ 28 ∷ 0 ∷ 0x7A ∷ 0x0E ∷ 0x42 ∷ 0x54 ∷ []

-- blocks of number 0 with L = 20: a u2 at 14, an f4 at 16
abbrev pub all_marked : List ℕ
all_marked =
    0x24 ∷ 0x40 ∷ 0x7B ∷ 0x1B ∷ 0x00 ∷ 0x00 ∷ 0x14 ∷ 0x00 ∷ 0x00 ∷ 0x00 ∷ 0x00 ∷ 0x00 ∷ 0x00 ∷ 0x00
    -- 65535; D09502F9
    ∷ 0xFF ∷ 0xFF ∷ 0xF9 ∷ 0x02 ∷ 0x95 ∷ 0xD0 ∷ []

abbrev pub none_marked : List ℕ
none_marked =
    0x24 ∷ 0x40 ∷ 0x6F ∷ 0x28 ∷ 0x00 ∷ 0x00 ∷ 0x14 ∷ 0x00 ∷ 0x00 ∷ 0x00 ∷ 0x00 ∷ 0x00 ∷ 0x00 ∷ 0x00
    -- 65534; D09502F8
    ∷ 0xFE ∷ 0xFF ∷ 0xF8 ∷ 0x02 ∷ 0x95 ∷ 0xD0 ∷ []

-- W1: a draft of revision 0 with TOW and WNc 0, and without sub-blocks
abbrev pub draft_of_body : ℕ → List Wanted → Draft
draft_of_body number ws =
    record { number = number; revision = 0; tow = Some (unsigned 0); wnc = Some (unsigned 0); body = ws; subs = [] }

-- the values of `none_marked`
abbrev pub near_marks : List Wanted
near_marks = Some (unsigned 65534) ∷ Some (single 0xD09502F8) ∷ []

-- Open with a ceiling
abbrev pub open_by : ℕ → Call
open_by c = open_run (record { ceiling = c })

-- each case begins on a new reader, whose first run is opened with the table, with a ceiling or with 65,532
abbrev pub under : ℕ → Transcript → Transcript
under c rest = table (stage sample_file) ⇒ version_is 1 ∷ open_by c ⇒ version_is 1 ∷ rest

abbrev pub run : Transcript → Transcript
run rest = under 65532 rest

abbrev pub cases : List Transcript
cases =
    -- S1: no byte
    run (finish ⇒ end_is 0 0 0 ∷ [])
    -- S2: one block
    ∷ run (feed sample_b ⇒ block_is 8 (report 0 0 0 8) ∷ look bytes ⇒ part None sample_b ∷ finish ⇒ end_is 8 1 0 ∷ [])
    -- S3: a wrong CRC
    ∷ run (feed sample_c ⇒ more_is 8 ∷ look bytes ⇒ part None [] ∷ finish ⇒ end_is 8 0 8 ∷ [])
    -- S4: IDs
    ∷ run (feed id3717 ⇒ block_is 8 (report 0 5943 0 8) ∷ finish ⇒ end_is 8 1 0 ∷ [])
    ∷ run (feed id3737 ⇒ block_is 8 (report 0 5943 1 8) ∷ finish ⇒ end_is 8 1 0 ∷ [])
    ∷ run (feed id_ffff ⇒ block_is 8 (report 0 8191 7 8) ∷ finish ⇒ end_is 8 1 0 ∷ [])
    -- S5: lengths not allowed; on the other side, 8 is a frame's length, see S2, and so is 12
    ∷ run (feed length4 ⇒ more_is 8 ∷ finish ⇒ end_is 8 0 8 ∷ [])
    ∷ run (feed length9 ⇒ more_is 9 ∷ finish ⇒ end_is 9 0 9 ∷ [])
    ∷ run (feed twelve ⇒ block_is 12 (report 0 0 0 12) ∷ finish ⇒ end_is 12 1 0 ∷ [])
    -- S6: a byte before the block
    ∷ run (feed (0x24 ∷ sample_b) ⇒ block_is 9 (report 1 0 0 8) ∷ look bytes ⇒ part None sample_b ∷ finish ⇒ end_is 9 1 1 ∷ [])
    -- S7: a header that promises more than comes
    ∷ run (feed sample_g ⇒ more_is 16 ∷ finish ⇒ found_is (report 8 0 0 8) ∷ look bytes ⇒ part None sample_b ∷ finish ⇒ end_is 16 1 8 ∷ [])
    -- on its other side, with all the header's 20 bytes, the block comes before Finish
    ∷ run (feed (sample_g ++ 0 ∷ 0 ∷ 0 ∷ 0 ∷ []) ⇒ block_is 20 (report 8 0 0 8) ∷ look bytes ⇒ part None sample_b ∷ finish ⇒ end_is 20 1 12 ∷ [])
    -- S8: mark 3
    ∷ run (look (body all_marked 1) ⇒ value do_not_use ∷ look (body none_marked 1) ⇒ value (single 0xD09502F8) ∷ [])
    -- S9: mark 1
    ∷ run (look (body all_marked 0) ⇒ value do_not_use ∷ look (body none_marked 0) ⇒ value (unsigned 65534) ∷ [])
    -- S10: cut too short, in each record call
    ∷ run (look (body sample_b 0) ⇒ refusal_is 7 ∷ look (sub sample_b 0 0) ⇒ refusal_is 7 ∷ look (sub_bytes sample_b 0) ⇒ part (Some 7) [] ∷ [])
    ∷ run (look (tow sample_b) ⇒ refusal_is 7 ∷ look (wnc sample_b) ⇒ refusal_is 7 ∷ [])
    -- on its other side, one whose number has no row; of length 20 a field is read, see S8 and S9
    ∷ run (look (body id3717 0) ⇒ refusal_is 6 ∷ [])
    -- S11: the lister's ten bytes
    ∷ run (feed (0x00 ∷ sample_b ++ 0x24 ∷ []) ⇒ block_is 9 (report 1 0 0 8) ∷ feed (0x24 ∷ []) ⇒ more_is 1 ∷ finish ⇒ end_is 10 1 2 ∷ [])
    -- W1: unset fields are written as Do-Not-Use, the bytes behind the block stay; and the neighbours of S8 and S9
    ∷ run (look (write (draft_of_body 0 []) (replicate 22 7)) ⇒ wrote_is 20 (all_marked ++ 7 ∷ 7 ∷ []) ∷ [])
    ∷ run (look (write (draft_of_body 0 near_marks) (replicate 20 7)) ⇒ wrote_is 20 none_marked ∷ [])
    -- 6 for a number without a row; 11 for a value that is Do-Not-Use, and before 12; 12 for one byte too few
    ∷ run (look (write (draft_of_body 1 []) (replicate 20 7)) ⇒ unwritten_is 6 (replicate 20 7) ∷ [])
    ∷ run (look (write (draft_of_body 0 (Some (unsigned 65535) ∷ [])) (replicate 19 7)) ⇒ unwritten_is 11 (replicate 19 7) ∷ [])
    ∷ run (look (write (draft_of_body 0 []) (replicate 19 7)) ⇒ unwritten_is 12 (replicate 19 7) ∷ [])
    -- S14: a false header, without a ceiling and with one
    ∷ run (feed false_header ⇒ more_is 16 ∷ finish ⇒ found_is (report 8 0 0 8) ∷ finish ⇒ end_is 16 1 8 ∷ [])
    ∷ under 4096 (feed false_header ⇒ block_is 16 (report 8 0 0 8) ∷ look bytes ⇒ part None sample_b ∷ finish ⇒ end_is 16 1 8 ∷ [])
    -- F16: a block as long as the ceiling is one, and one that is longer is not; a record call reads both, and Write makes the first
    ∷ under 20 (feed none_marked ⇒ block_is 20 (report 0 0 0 20) ∷ look (write (draft_of_body 0 []) (replicate 20 7)) ⇒ wrote_is 20 all_marked ∷ [])
    ∷ under 16 (feed none_marked ⇒ more_is 20 ∷ look (body none_marked 0) ⇒ value (unsigned 65534) ∷ finish ⇒ end_is 20 0 20 ∷ [])
    -- R12: the ceiling stays after End, until the next Open
    ∷ under 16
    (finish ⇒ end_is 0 0 0
    ∷ look (write (draft_of_body 0 []) (replicate 20 7)) ⇒ unwritten_is 12 (replicate 20 7)
    ∷ open_by 65532 ⇒ version_is 1
    ∷ look (write (draft_of_body 0 []) (replicate 20 7)) ⇒ wrote_is 20 all_marked
    ∷ [])
    -- R13: no ceilings, and the least and the greatest one; 13 after 2 and before 5
    ∷ run (open_by 65536 ⇒ refused_is 2 ∷ [])
    ∷ (open_by 8 ⇒ refused_is 13 ∷ open_by 12 ⇒ refused_is 13 ∷ open_by 65533 ⇒ refused_is 13 ∷ open_by 65536 ⇒ refused_is 13 ∷ open_by 18 ⇒ refused_is 13 ∷ [])
    ∷ (open_by 16 ⇒ refused_is 5 ∷ open_by 65532 ⇒ refused_is 5 ∷ [])
    ∷ []

abbrev pub SamplesHold : Type 0
SamplesHold = map replayed cases ≡ cases
