-- Check values from outside: the CRC catalogue's for "123456789" (rule F7), the empty list, and the frame of S2.
-- Assumes nothing.
use Rattle.std.specs.Prelude.{ℕ, ◌≡◌, List, [], ◌∷◌, map}
use Rattle.crc.specs.Crc.{crc_of}

pub record Sample : Type 0 where
  pub bytes : List ℕ
  pub crc : ℕ

abbrev sample : List ℕ → ℕ → Sample
sample bs c = record { bytes = bs; crc = c }

-- the third is bytes 4 to 7 of S2's frame, whose CRC field is 0x89A9
abbrev pub samples : List Sample
samples =
    sample (0x31 ∷ 0x32 ∷ 0x33 ∷ 0x34 ∷ 0x35 ∷ 0x36 ∷ 0x37 ∷ 0x38 ∷ 0x39 ∷ []) 0x31C3
    ∷ sample [] 0
    ∷ sample (0x00 ∷ 0x00 ∷ 0x08 ∷ 0x00 ∷ []) 0x89A9
    ∷ []

abbrev pub CrcSamplesHold : Type 0
CrcSamplesHold = map (λ (s : Sample). crc_of s.bytes) samples ≡ map (λ (s : Sample). s.crc) samples
