-- A frame at a place of a run (rules F2 to F9) read with a ceiling (F16), and what refusal 10 asks (R10).
-- Assumes nothing.
use Rattle.std.specs.Prelude.{ℕ, ◌+◌, ◌%◌, ◌/◌, List, Bool, ◌&&◌, length, get_or, take, drop, leb, eqb}
use Rattle.crc.specs.Crc.{crc_of}
use Rattle.wire.specs.Little.{little_at}

-- F2: the sync pair
unfoldable pub sync_at : List ℕ → ℕ → Bool
sync_at w p = eqb (get_or w p 0) 0x24 && eqb (get_or w (p + 1) 0) 0x40

-- F3: the header's CRC, ID and length
abbrev pub crc_at : List ℕ → ℕ → ℕ
crc_at w p = little_at 2 w (p + 2)

abbrev pub id_at : List ℕ → ℕ → ℕ
id_at w p = little_at 2 w (p + 4)

abbrev pub length_at : List ℕ → ℕ → ℕ
length_at w p = little_at 2 w (p + 6)

-- F16: the greatest ceiling
abbrev pub greatest_ceiling : ℕ
greatest_ceiling = 65532

-- F16: which numbers are ceilings
unfoldable pub ceiling_ok : ℕ → Bool
ceiling_ok c = eqb (c % 4) 0 && leb 16 c && leb c greatest_ceiling

-- F4: which lengths are allowed under the ceiling c
unfoldable pub allowed : ℕ → ℕ → Bool
allowed c l = eqb (l % 4) 0 && leb 8 l && leb l c

-- F5: the run has all of the frame
unfoldable pub ends_within : List ℕ → ℕ → Bool
ends_within w p = leb (p + length_at w p) (length w)

-- F6: the CRC is that of what comes after its field
unfoldable pub crc_right : List ℕ → ℕ → Bool
crc_right w p = eqb (crc_at w p) (crc_of (drop (p + 4) (take (p + length_at w p) w)))

-- F8, F16: a frame stands at the place p of the run w, which is read with the ceiling c
unfoldable pub frame_at : ℕ → List ℕ → ℕ → Bool
frame_at c w p = sync_at w p && allowed c (length_at w p) && ends_within w p && crc_right w p

-- F9: the two parts of an ID
abbrev pub number_of : ℕ → ℕ
number_of id = id % 8192

abbrev pub revision_of : ℕ → ℕ
revision_of id = id / 8192

-- R10: the bytes are exactly one frame, of any length that there is (C17)
unfoldable pub whole_frame : List ℕ → Bool
whole_frame v = frame_at greatest_ceiling v 0 && eqb (length_at v 0) (length v)
