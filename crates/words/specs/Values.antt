-- The words of a `write` (docs/REPLAY.md): values with their kinds and bits, as rules W2 and W3 have them, and TOW and WNc.
-- Assumes nothing.
use Rattle.std.specs.Prelude.{ℕ, ◌-◌, ◌%◌, ◌^◌, Bool, false, cond, List, [], ◌∷◌, eqb, leb, ltb, Option, None, Some}
use Rattle.words.specs.Words.{decimal_in}

-- a number without a minus: at most 2^63 - 1
abbrev pub from_zero : Option ℕ → Option ℕ
from_zero None = None
from_zero (Some n) = cond (ltb n (2 ^ 63)) (Some n) None

-- a number behind a minus: at most 2^63, in two's complement
abbrev pub below_zero : Option ℕ → Option ℕ
below_zero None = None
below_zero (Some n) = cond (leb n (2 ^ 63)) (Some ((2 ^ 64 - n) % 2 ^ 64)) None

-- a word as a number with sign, by its 64 bits: `-` before it where it is negative
unfoldable pub signed_number_in : List ℕ → Option ℕ
signed_number_in [] = None
signed_number_in (c ∷ w) = cond (eqb c 45) (below_zero (decimal_in w)) (from_zero (decimal_in (c ∷ w)))

-- W2: a kind and its bits
abbrev pub of_kind : ℕ → Option ℕ → Option (ℕ × ℕ)
of_kind k None = None
of_kind k (Some x) = Some (k, x)

-- W2, W3: `-` is unset, `/` begins a sub-block
unfoldable pub lone_is : ℕ → Option (ℕ × ℕ)
lone_is c = cond (eqb c 45) (Some (0, 0)) (cond (eqb c 47) (Some (255, 0)) None)

-- W2: `u` and a number, `i` and a number with sign, `f` or `d` and the bits of a single or double float
unfoldable pub letter_is : ℕ → List ℕ → Option (ℕ × ℕ)
letter_is c w =
    cond (eqb c 117) (of_kind 1 (decimal_in w))
    (cond (eqb c 105) (of_kind 2 (signed_number_in w))
    (cond (eqb c 102) (of_kind 3 (decimal_in w))
    (cond (eqb c 100) (of_kind 4 (decimal_in w)) None)))

-- a VALUE of a `write`, or its `/`
unfoldable pub value_in : List ℕ → Option (ℕ × ℕ)
value_in [] = None
value_in (c ∷ []) = lone_is c
value_in (c ∷ d ∷ w) = letter_is c (d ∷ w)

abbrev pub is_dash : List ℕ → Bool
is_dash [] = false
is_dash (c ∷ []) = eqb c 45
is_dash (c ∷ d ∷ w) = false

-- TOW and WNC of a `write`: `-` for unset, or a number
unfoldable pub stamp_in : List ℕ → Option (ℕ × ℕ)
stamp_in w = cond (is_dash w) (Some (0, 0)) (of_kind 1 (decimal_in w))
