-- The CRC bit by bit (rule F7).
-- Assumes nothing.
use Rattle.std.specs.Prelude.{ℕ, ◌*◌, ◌/◌, ◌%◌, ◌<◌, ◌≡◌, List, [], ◌∷◌, get_or}
use Rattle.std.specs.Int.Bits.{bit_xor}

-- F7: one bit. The register is shifted left in 16 bits, and where a one falls out (c / 32768) the polynomial is xored in
unfoldable pub crc_bit : ℕ → ℕ
crc_bit c = bit_xor (c * 2 % 65536) (c / 32768 * 0x1021)

unfoldable pub crc_bits8 : ℕ → ℕ
crc_bits8 c = crc_bit (crc_bit (crc_bit (crc_bit (crc_bit (crc_bit (crc_bit (crc_bit c)))))))

-- F7: one byte. It is xored into the top of the register, so its high bit falls out first
unfoldable pub crc_byte : ℕ → ℕ → ℕ
crc_byte c b = crc_bits8 (bit_xor c (b * 256))

-- F7: a list, from a register
unfoldable pub crc_from : ℕ → List ℕ → ℕ
crc_from c [] = c
crc_from c (b ∷ bs) = crc_from (crc_byte c b) bs

-- F7: a list, from 0; the register is the result as it is
unfoldable pub crc_of : List ℕ → ℕ
crc_of bs = crc_from 0 bs

-- a table of the remainders of all bytes: entry k is that of the byte k in the top of an empty register
unfoldable pub Remainders : List ℕ → Type 0
Remainders t = (k : ℕ) → k < 256 → get_or t k 0 ≡ crc_bits8 (k * 256)
