-- `writing::ceilings_hold`: antt computes both sides.
-- Assumes nothing.
use mathlib.Core.Path.{refl}
use Rattle.kinds.specs.Types.{size_of}
use Rattle.kinds.specs.Marks.{is_do_not_use}
use Rattle.table.specs.Lists.{every, first_that}
use Rattle.table.specs.Lookup.{find_row}
use Rattle.entry.specs.Bits.{bits_for, bits_of, wanted_ok, list_ok}
use Rattle.draft.specs.Draft.{stamps_ok, body_ok, subs_ok, draft_ok, last_end, sb_length_by, block_end_by, room_for}
use Rattle.writer.specs.Write.{written_by, written_of}
use Rattle.writing.proofs.ceilings_hold.Goals as goal

pub returns : goal.returns
unfolding size_of is_do_not_use every bits_for bits_of wanted_ok list_ok stamps_ok body_ok subs_ok draft_ok last_end sb_length_by block_end_by room_for written_by first_that find_row written_of
returns c = refl
