-- Numbers as text, byte by byte: in decimal, with a sign, and a CRC in hex.
-- Assumes nothing.
use Rattle.std.specs.Prelude.{ℕ, zero, suc, ◌/◌, cond, List, [], ◌∷◌, ◌++◌, ltb, ℤ, pos, negsuc}
use Rattle.io.specs.Digits.{last_digits}

-- how many decimal digits a number takes, if no more than 1 + `most`
abbrev pub places : ℕ → ℕ → ℕ
places zero n = 1
places (suc most) n = cond (ltb n 10) 1 (suc (places most (n / 10)))

-- a number of the code has at most 20
unfoldable pub decimal : ℕ → List ℕ
decimal n = last_digits 10 (places 19 n) n

abbrev pub spaced : ℕ → List ℕ
spaced n = 32 ∷ decimal n

-- as CRCs are printed
unfoldable pub four_hex : ℕ → List ℕ
four_hex n = last_digits 16 4 n

abbrev pub crc_text : ℕ → List ℕ
crc_text n = 32 ∷ four_hex n

-- `-`, a space before it
abbrev pub word_minus : List ℕ
word_minus = 32 ∷ 45 ∷ []

-- a negative number has its sign in front
abbrev pub integer_text : ℤ → List ℕ
integer_text (pos n) = spaced n
integer_text (negsuc n) = word_minus ++ decimal (suc n)
