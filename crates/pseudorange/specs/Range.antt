-- Pseudoranges in whole millimetres (rules V11, V12), by the numbers in the fields.
-- Assumes nothing.
use Rattle.std.specs.Prelude.{ℕ, ◌+◌, ◌*◌, ◌%◌, Bool, false, ◌&&◌, ◌||◌, cond, eqb, ℤ, pos, negsuc, ◌+ℤ◌, ◌*ℤ◌, Option, None, Some}
use Rattle.value.specs.Said.{FieldSaid, signed, do_not_use, field_refused}
use Rattle.value.specs.Bits.{with_sign}

-- V11: the low four bits of Misc
abbrev pub code_msb : ℕ → ℕ
code_msb misc = misc % 16

-- V11: of Misc and CodeLSB
abbrev pub first_range : ℕ → ℕ → ℕ
first_range misc lsb = code_msb misc * 4294967296 + lsb

-- V11: it is Do-Not-Use
abbrev pub no_first : ℕ → ℕ → Bool
no_first misc lsb = eqb (code_msb misc) 0 && eqb lsb 0

-- V12: the low three bits of OffsetsMSB, in two's complement
abbrev pub code_offset_msb : ℕ → ℤ
code_offset_msb offsets = with_sign 4 (offsets % 8)

-- V12: what is added to the first level's, of OffsetsMSB and CodeOffsetLSB
abbrev pub code_offset : ℕ → ℕ → ℤ
code_offset offsets lsb = code_offset_msb offsets *ℤ pos 65536 +ℤ pos lsb

-- V12: of the first level's and these
abbrev pub second_range : ℕ → ℕ → ℕ → ℤ
second_range first offsets lsb = pos first +ℤ code_offset offsets lsb

abbrev pub is_minus4 : ℤ → Bool
is_minus4 (pos n) = false
is_minus4 (negsuc n) = eqb n 3

-- V12: it is Do-Not-Use by itself
abbrev pub no_offset : ℕ → ℕ → Bool
no_offset offsets lsb = is_minus4 (code_offset_msb offsets) && eqb lsb 0

-- C16: what Range answers, by Misc and CodeLSB; R9: one of them is no number
abbrev pub range_said : Option (ℕ × ℕ) → FieldSaid
range_said None = field_refused 9
range_said (Some p) = cond (no_first p.0 p.1) do_not_use (signed (pos (first_range p.0 p.1)))

-- C16: what Range2 answers, by the same, OffsetsMSB and CodeOffsetLSB; R9 comes before Do-Not-Use
abbrev pub range2_said : Option (ℕ × ℕ) → Option (ℕ × ℕ) → FieldSaid
range2_said None q = field_refused 9
range2_said (Some p) None = field_refused 9
range2_said (Some p) (Some q) =
    cond (no_first p.0 p.1 || no_offset q.0 q.1) do_not_use (signed (second_range (first_range p.0 p.1) q.0 q.1))
