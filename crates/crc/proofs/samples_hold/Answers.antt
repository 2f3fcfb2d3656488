-- `crc::samples_hold`: antt computes both sides. Assumes nothing.
use mathlib.Core.Path.{refl}
use Rattle.crc.specs.Crc.{crc_bit, crc_bits8, crc_byte, crc_from, crc_of}
use Rattle.crc.proofs.samples_hold.Goals as goal

pub returns : goal.returns
unfolding crc_bit crc_bits8 crc_byte crc_from crc_of
returns c = refl
