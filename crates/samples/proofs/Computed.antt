-- What antt computes: the samples, and the answers of the flight line. The `unfolding` line names all that a call's answer is made of.
-- Assumes nothing.
use mathlib.Core.Path.{◌≡◌, refl}
use mathlib.Core.List.{flat_map}
use Rattle.table.specs.Rows.{first_rows, second_rows}
use Rattle.crc.specs.Crc.{crc_of, crc_from, crc_byte, crc_bits8, crc_bit}
use Rattle.wire.specs.Little.{little_at}
use Rattle.frame.specs.Frame.{sync_at, ceiling_ok, allowed, ends_within, crc_right, frame_at, whole_frame}
use Rattle.frame.specs.Judge.{judged, judged_last}
use Rattle.scan.specs.Settle.{settle}
use Rattle.scan.specs.Feed.{feed_by}
use Rattle.scan.specs.Passed.{count_all}
use Rattle.feed.specs.Hold.{rest_of}
use Rattle.table.specs.Lists.{tabulate, every, chain, neighbours, first_that, pick}
use Rattle.kinds.specs.Types.{size_of}
use Rattle.kinds.specs.Marks.{mark_fits, is_do_not_use, unset_of}
use Rattle.rows.specs.Places.{field_at, row_from, row_at}
use Rattle.table.specs.Decode.{rows_of, block_of, decode}
use Rattle.table.specs.Rules.{file_ok, index_ok, used_fields, form_ok, rising_ok, is_pair, fields_ok, block_ok, meaning_ok, table_ok, shape_ok}
use Rattle.table.specs.Lookup.{find_row}
use Rattle.value.specs.Bits.{with_sign, read_as, value_of, field_value}
use Rattle.block.specs.Block.{body_fits, subs_fit, seen_row, seen, seen_sub_row, seen_sub, one_fits, nest_of}
use Rattle.record.specs.Calls.{field_said, body_field, sub_slice, sub_field, sub_block, sub_block_refusal, stamp}
use Rattle.reader.specs.State.{sound}
use Rattle.tables.specs.Calls.{open_refusal, stage_refusal, withdraw_refusal, open_of, stage_of, withdraw_of}
use Rattle.runs.specs.Refusals.{feed_refusal, finish_refusal, bytes_refusal}
use Rattle.runs.specs.Calls.{feeding_of, feed_of, finishing_of, finish_of, bytes_of}
use Rattle.records.specs.Calls.{ask_refusal, body_of, sub_of, sub_bytes_of, sub_bytes_refusal, stamp_of}
use Rattle.pen.specs.Bytes.{little_bytes}
use Rattle.entry.specs.Bits.{bits_for, bits_of, wanted_ok, list_ok}
use Rattle.draft.specs.Draft.{stamps_ok, body_ok, subs_ok, draft_ok, last_end, sb_length_by, block_end_by, room_for}
use Rattle.writer.specs.Block.{laid, body_values, stamps_and_body, subs_part, unsealed_block, block_bytes}
use Rattle.writer.specs.Write.{written_by, written_of}
use Rattle.writes.specs.Calls.{write_of}
use Rattle.demands.specs.World.{step, trace}
use Rattle.samples.specs.Transcript.{new_world, replayed}
use Rattle.samples.specs.Samples.{SamplesHold}
use Rattle.samples.specs.Flight.{flight}

pub record Computed : Type 0 where
  pub samples : SamplesHold
  pub story : replayed flight ≡ flight

pub computed : Computed
unfolding crc_of crc_from crc_byte crc_bits8 crc_bit little_at sync_at ceiling_ok allowed ends_within crc_right frame_at whole_frame judged judged_last settle feed_by count_all rest_of tabulate every chain neighbours first_that pick size_of mark_fits field_at row_from row_at rows_of block_of decode file_ok index_ok used_fields form_ok rising_ok is_pair fields_ok first_rows second_rows shape_ok block_ok meaning_ok table_ok find_row with_sign read_as is_do_not_use value_of field_value body_fits one_fits subs_fit nest_of seen_row seen seen_sub_row seen_sub field_said body_field sub_slice sub_field sub_block sub_block_refusal stamp sound open_refusal feed_refusal finish_refusal bytes_refusal stage_refusal withdraw_refusal open_of feeding_of feed_of finishing_of finish_of bytes_of stage_of withdraw_of ask_refusal body_of sub_of sub_bytes_of sub_bytes_refusal stamp_of little_bytes unset_of bits_for bits_of wanted_ok list_ok stamps_ok body_ok subs_ok draft_ok last_end sb_length_by block_end_by room_for laid body_values stamps_and_body subs_part unsealed_block block_bytes written_by written_of write_of flat_map step trace new_world replayed
computed = record { samples = refl; story = refl }
