-- The ten types of fields: their numbers, their sizes, and which are of one kind (rule V1).
-- Assumes nothing.
use Rattle.std.specs.Prelude.{Bool, ◌&&◌, List, [], ◌∷◌, ℕ, zero, suc, ◌-◌, ◌*◌, ◌^◌, leb, get_or}

-- V1: the numbers of the types
abbrev pub u1 : ℕ
u1 = 1

abbrev pub u2 : ℕ
u2 = 2

abbrev pub u4 : ℕ
u4 = 3

abbrev pub u8 : ℕ
u8 = 4

abbrev pub i1 : ℕ
i1 = 5

abbrev pub i2 : ℕ
i2 = 6

abbrev pub i4 : ℕ
i4 = 7

abbrev pub i8 : ℕ
i8 = 8

abbrev pub f4 : ℕ
f4 = 9

abbrev pub f8 : ℕ
f8 = 10

-- V1: the sizes, in the order of the numbers
abbrev pub sizes : List ℕ
sizes = 1 ∷ 2 ∷ 4 ∷ 8 ∷ 1 ∷ 2 ∷ 4 ∷ 8 ∷ 4 ∷ 8 ∷ []

-- V1: the size of a type; 0 where it is not listed
unfoldable pub size_of : ℕ → ℕ
size_of zero = 0
size_of (suc k) = get_or sizes k 0

-- V1: there is no other type
abbrev pub listed : ℕ → Bool
listed kind = leb u1 kind && leb kind f8

-- V1: the three kinds
abbrev pub is_unsigned : ℕ → Bool
is_unsigned kind = leb u1 kind && leb kind u8

abbrev pub is_signed : ℕ → Bool
is_signed kind = leb i1 kind && leb kind i8

abbrev pub is_float : ℕ → Bool
is_float kind = leb f4 kind && leb kind f8

-- V1: half of the numbers that so many bytes make; with a sign, those from here on are negative, and this one is the lowest
abbrev pub half : ℕ → ℕ
half size = 2 ^ (8 * size - 1)
