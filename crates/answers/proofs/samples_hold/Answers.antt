-- `answers::samples_hold`: antt computes both sides.
-- Assumes nothing.
use mathlib.Core.Path.{refl}
use Rattle.crc.specs.Crc.{crc_of, crc_from, crc_byte, crc_bits8, crc_bit}
use Rattle.wire.specs.Little.{little_at}
use Rattle.frame.specs.Frame.{sync_at, allowed, ends_within, crc_right, frame_at, whole_frame}
use Rattle.table.specs.Lists.{every, first_that, pick}
use Rattle.kinds.specs.Types.{size_of}
use Rattle.kinds.specs.Marks.{is_do_not_use}
use Rattle.table.specs.Rows.{first_rows}
use Rattle.table.specs.Lookup.{find_row}
use Rattle.value.specs.Bits.{with_sign, read_as, value_of, field_value}
use Rattle.block.specs.Block.{body_fits, one_fits, subs_fit, nest_of, seen_row, seen, seen_sub_row, seen_sub}
use Rattle.record.specs.Calls.{field_said, body_field, sub_slice, sub_field, sub_block, sub_block_refusal, stamp}
use Rattle.answers.proofs.samples_hold.Goals as goal

pub returns : goal.returns
unfolding crc_of crc_from crc_byte crc_bits8 crc_bit little_at sync_at allowed ends_within crc_right frame_at whole_frame every first_that pick size_of first_rows find_row with_sign read_as is_do_not_use value_of field_value body_fits one_fits subs_fit nest_of seen_row seen seen_sub_row seen_sub field_said body_field sub_slice sub_field sub_block sub_block_refusal stamp
returns c = refl
