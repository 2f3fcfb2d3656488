-- `writing::blocks_hold`: antt computes both sides.
-- Assumes nothing.
use mathlib.Core.List.{flat_map}
use mathlib.Core.Path.{refl}
use Rattle.crc.specs.Crc.{crc_of, crc_from, crc_byte, crc_bits8, crc_bit}
use Rattle.kinds.specs.Types.{size_of}
use Rattle.kinds.specs.Marks.{is_do_not_use, unset_of}
use Rattle.table.specs.Lists.{every, first_that}
use Rattle.table.specs.Lookup.{find_row}
use Rattle.pen.specs.Bytes.{little_bytes}
use Rattle.entry.specs.Bits.{bits_for, bits_of, wanted_ok, list_ok}
use Rattle.draft.specs.Draft.{stamps_ok, body_ok, subs_ok, draft_ok, last_end, sb_length_by, block_end_by, room_for}
use Rattle.writer.specs.Block.{laid, body_values, stamps_and_body, subs_part, unsealed_block, block_bytes}
use Rattle.writer.specs.Write.{written_by, written_of}
use Rattle.writing.proofs.blocks_hold.Goals as goal

pub returns : goal.returns
unfolding flat_map crc_of crc_from crc_byte crc_bits8 crc_bit size_of is_do_not_use unset_of every little_bytes bits_for bits_of wanted_ok list_ok stamps_ok body_ok subs_ok draft_ok last_end sb_length_by block_end_by room_for laid body_values stamps_and_body subs_part unsealed_block block_bytes written_by first_that find_row written_of
returns c = refl
