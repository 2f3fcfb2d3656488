-- The marks, one list (rules V3, V4, V10, W6): the types that may bear each, its test for Do-Not-Use, and what an unset field is written
-- with.
-- Assumes nothing.
use Rattle.std.specs.Prelude.{Bool, true, false, cond, List, [], ◌∷◌, ◌≡◌, ℕ, ◌-◌, ◌/◌, ◌^◌, ◌<◌, eqb, get_or, Option, None, Some}
use Rattle.kinds.specs.Types.{u2, size_of, listed, is_unsigned, is_signed, is_float, half}

-- V3: the numbers of the marks
abbrev pub unmarked : ℕ
unmarked = 0

abbrev pub ones : ℕ
ones = 1

abbrev pub zeroes : ℕ
zeroes = 2

abbrev pub minus2e10 : ℕ
minus2e10 = 3

abbrev pub least : ℕ
least = 4

abbrev pub seed : ℕ
seed = 5

-- of a type: whether it may bear the mark; of a size and bits of so many bytes: whether they are Do-Not-Use; of a size: the bits
-- that an unset field is written with, none where a field cannot be unset
pub record Mark : Type 0 where
  pub fits : ℕ → Bool
  pub test : ℕ → ℕ → Bool
  pub unset : ℕ → Option ℕ

-- V3: the bits that marks 1 to 3 name, in so many bytes; those of mark 4 are `half`
abbrev pub all_ones : ℕ → ℕ
all_ones size = 256 ^ size - 1

abbrev pub nought : ℕ → ℕ
nought size = 0

abbrev pub minus : ℕ → ℕ
minus size = cond (eqb size 4) 0xD09502F9 0xC212A05F20000000

-- V4: by these bits, in so many bytes, and no others; an unset field is written with them
abbrev pub equals : (ℕ → ℕ) → ℕ → ℕ → Bool
equals bits size x = eqb x (bits size)

abbrev pub written : (ℕ → ℕ) → ℕ → Option ℕ
written bits size = Some (bits size)

-- V10, mark 5: the bits of a u2 from 13 up, the type of PPPInfo's last seed; Do-Not-Use where it is 0, whatever the bits below are
abbrev pub seed_type : ℕ → ℕ
seed_type x = x / 8192

abbrev pub no_seed : ℕ → ℕ → Bool
no_seed size x = eqb (seed_type x) 0

-- V3, mark 0: the field is never Do-Not-Use, and cannot be unset
abbrev pub no_test : ℕ → ℕ → Bool
no_test size x = false

abbrev pub cannot : ℕ → Option ℕ
cannot size = None

-- V3: in the order of their numbers
abbrev pub marks : List Mark
marks =
    record { fits = λ kind. true; test = no_test; unset = cannot }
    ∷ record { fits = is_unsigned; test = equals all_ones; unset = written all_ones }
    ∷ record { fits = is_unsigned; test = equals nought; unset = written nought }
    ∷ record { fits = is_float; test = equals minus; unset = written minus }
    ∷ record { fits = is_signed; test = equals half; unset = written half }
    ∷ record { fits = λ kind. eqb kind u2; test = no_seed; unset = written nought }
    ∷ []

-- V3: there is no other mark, so no type may bear one
abbrev pub unlisted : Mark
unlisted = record { fits = λ kind. false; test = no_test; unset = cannot }

abbrev pub mark_of : ℕ → Mark
mark_of mark = get_or marks mark unlisted

-- V3: whether a type may bear a mark
unfoldable pub mark_fits : ℕ → ℕ → Bool
mark_fits kind mark = (mark_of mark).fits kind

-- V3, V4: whether the bits of a type are its mark's Do-Not-Use
unfoldable pub is_do_not_use : ℕ → ℕ → ℕ → Bool
is_do_not_use mark kind x = (mark_of mark).test (size_of kind) x

-- W6: what an unset field of a type is written with
unfoldable pub unset_of : ℕ → ℕ → Option ℕ
unset_of mark kind = (mark_of mark).unset (size_of kind)

-- what is written for a mark fits the type, and is told as Do-Not-Use; only a field without a mark cannot be unset
abbrev pub ReadsUnset : ℕ → ℕ → Option ℕ → Type 0
ReadsUnset mark kind None = mark ≡ unmarked
ReadsUnset mark kind (Some bits) = (bits < 256 ^ size_of kind) × (is_do_not_use mark kind bits ≡ true)

abbrev pub UnsetIsTold : Type 0
UnsetIsTold = (kind mark : ℕ) → listed kind ≡ true → mark_fits kind mark ≡ true → ReadsUnset mark kind (unset_of mark kind)
