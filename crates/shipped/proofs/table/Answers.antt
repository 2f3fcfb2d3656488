-- `shipped::table`: antt computes the file of the rows, and it is the constant.
-- Assumes nothing.
use mathlib.Core.Path.{refl}
use Rattle.encode.specs.Encode.{u2_bytes, field_bytes, fields_part, rows_part, unsealed, encode}
use Rattle.crc.specs.Crc.{crc_bit, crc_bits8, crc_byte, crc_from, crc_of}
use Rattle.shipped.proofs.table.Goals as goal

pub returns : goal.returns
unfolding crc_bit crc_bits8 crc_byte crc_from crc_of u2_bytes field_bytes fields_part rows_part unsealed encode
returns c = refl
