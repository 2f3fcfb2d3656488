-- `encode::marks_hold`: antt computes both sides.
-- Assumes nothing.
use mathlib.Core.Path.{refl}
use Rattle.wire.specs.Little.{little_at}
use Rattle.table.specs.Lists.{tabulate, every, chain, neighbours, pick}
use Rattle.kinds.specs.Types.{size_of}
use Rattle.kinds.specs.Marks.{mark_fits}
use Rattle.rows.specs.Places.{field_at, row_from, row_at}
use Rattle.table.specs.Rows.{first_rows, second_rows}
use Rattle.table.specs.Decode.{rows_of, block_of, decode}
use Rattle.encode.specs.Encode.{u2_bytes, field_bytes, fields_part, rows_part, unsealed, encode}
use Rattle.table.specs.Rules.{rising_ok, is_pair, is_triple, nest_ok, shape_ok, fields_ok, block_ok, meaning_ok}
use Rattle.encode.proofs.marks_hold.Goals as goal

pub returns : goal.returns
unfolding little_at tabulate every chain neighbours pick size_of mark_fits field_at row_from row_at first_rows second_rows rows_of block_of decode u2_bytes field_bytes fields_part rows_part unsealed encode rising_ok is_pair is_triple nest_ok shape_ok fields_ok block_ok meaning_ok
returns c = refl
