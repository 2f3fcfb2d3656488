-- The range of pseudoranges (rules V11, V12): a signed number of 64 bits holds each.
-- Assumes nothing.
use Rattle.std.specs.Prelude.{ℕ, ◌<◌, ◌≤◌, ℤ, pos, negsuc}
use Rattle.pseudorange.specs.Range.{first_range, second_range}

-- from -low to high
abbrev pub Between : ℕ → ℕ → ℤ → Type 0
Between low high (pos n) = n ≤ high
Between low high (negsuc n) = n < low

-- of a u1 and a u4, and of a u1 and a u2 with any of these: no more than -262,144 and 68,719,738,879, where 63 bits hold
-- 9,223,372,036,854,775,807
pub record RangesFit : Type 0 where
  pub first : (misc lsb : ℕ) → lsb < 4294967296 → Between 0 68719476735 (pos (first_range misc lsb))
  pub second : (misc code offsets lsb : ℕ) → code < 4294967296 → lsb < 65536
      → Between 262144 68719738879 (second_range (first_range misc code) offsets lsb)
