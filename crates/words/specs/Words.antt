-- The words of a script's line (docs/REPLAY.md): where one ends, its key, decimal numbers, bytes in hex.
-- Assumes nothing.
use Rattle.std.specs.Prelude.{ℕ, suc, ◌+◌, ◌-◌, ◌*◌, cond, ◌&&◌, List, [], ◌∷◌, eqb, leb, ltb, length, Option, None, Some}

-- how many bytes stand before the first b
unfoldable pub up_to : ℕ → List ℕ → ℕ
up_to b [] = 0
up_to b (c ∷ s) = cond (eqb c b) 0 (suc (up_to b s))

-- the bytes of a word behind the number k, as digits of base 256; 0 where one of them is zero
unfoldable pub key_from : ℕ → List ℕ → ℕ
key_from k [] = k
key_from k (c ∷ w) = cond (eqb c 0) 0 (key_from (k * 256 + c) w)

-- a word's key: no two words of one to eight bytes, none of them zero, have the same (`KeysApart`); 0 for all other words
unfoldable pub key_of : List ℕ → ℕ
key_of w = cond (ltb 8 (length w)) 0 (key_from 0 w)

-- v with the digit c behind it: c is `0` to `9`, and the number is at most 2^64 - 1
unfoldable pub add_digit : ℕ → ℕ → Option ℕ
add_digit v c = cond (leb 48 c && leb c 57 && leb (v * 10 + (c - 48)) 18446744073709551615) (Some (v * 10 + (c - 48))) None

abbrev pub digit_behind : Option ℕ → ℕ → Option ℕ
digit_behind None c = None
digit_behind (Some v) c = add_digit v c

-- what the digits so far make, with the rest of them behind it
unfoldable pub number_then : List ℕ → Option ℕ → Option ℕ
number_then [] v = v
number_then (c ∷ w) v = number_then w (digit_behind v c)

-- a word of one digit or more; none where it is no number
unfoldable pub decimal_in : List ℕ → Option ℕ
decimal_in [] = None
decimal_in (c ∷ w) = number_then (c ∷ w) (Some 0)

-- `0` to `9`, `A` to `F`, `a` to `f`; 16 for any other byte
unfoldable pub hex_digit : ℕ → ℕ
hex_digit c =
    cond (leb 48 c && leb c 57) (c - 48)
    (cond (leb 65 c && leb c 70) (c - 55) (cond (leb 97 c && leb c 102) (c - 87) 16))

abbrev pub in_front : ℕ → Option (List ℕ) → Option (List ℕ)
in_front b None = None
in_front b (Some l) = Some (b ∷ l)

-- two digits a byte, the high one first; none where one is no hex digit or one is left over
unfoldable pub bytes_from : List ℕ → Option (List ℕ)
bytes_from [] = Some []
bytes_from (c ∷ []) = None
bytes_from (c ∷ d ∷ w) = cond (ltb 15 (hex_digit c)) None (cond (ltb 15 (hex_digit d)) None (in_front (hex_digit c * 16 + hex_digit d) (bytes_from w)))

-- a word: `-` for none, else two digits or more
unfoldable pub bytes_in : List ℕ → Option (List ℕ)
bytes_in [] = None
bytes_in (c ∷ []) = cond (eqb c 45) (Some []) None
bytes_in (c ∷ d ∷ w) = bytes_from (c ∷ d ∷ w)
