-- `samples::pppinfo_holds`: antt computes each.
-- Assumes nothing.
use mathlib.Core.Path.{refl}
use Rattle.crc.specs.Crc.{crc_of, crc_from, crc_byte, crc_bits8, crc_bit}
use Rattle.wire.specs.Little.{little_at}
use Rattle.frame.specs.Frame.{sync_at, allowed, ends_within, crc_right, frame_at, whole_frame}
use Rattle.table.specs.Lists.{every, first_that, pick}
use Rattle.table.specs.Lookup.{find_row}
use Rattle.kinds.specs.Types.{size_of}
use Rattle.kinds.specs.Marks.{is_do_not_use, unset_of}
use Rattle.value.specs.Bits.{with_sign, read_as, value_of, field_value}
use Rattle.block.specs.Block.{body_fits, subs_fit, seen_row, seen, one_fits}
use Rattle.record.specs.Calls.{field_said, body_field}
use Rattle.entry.specs.Bits.{bits_for, bits_of, wanted_ok, list_ok}
use Rattle.draft.specs.Draft.{stamps_ok, body_ok, subs_ok, draft_ok, last_end, sb_length_by, block_end_by, room_for}
use Rattle.writer.specs.Write.{written_by, written_of}
use Rattle.samples.proofs.pppinfo_holds.Goals as goal

pub returns : goal.returns
unfolding crc_of crc_from crc_byte crc_bits8 crc_bit little_at sync_at allowed ends_within crc_right frame_at whole_frame every first_that pick find_row size_of is_do_not_use unset_of with_sign read_as value_of field_value body_fits one_fits subs_fit seen_row seen field_said body_field bits_for bits_of wanted_ok list_ok stamps_ok body_ok subs_ok draft_ok last_end sb_length_by block_end_by room_for written_by written_of
returns c = record { row = refl; read = refl; bits = refl; drafts = refl }
