-- The register, a byte at a time through the table, and over a list.
-- Assumes nothing.
use mathlib.Core.Path.{◌≡◌, refl, sym, ap, ◌∙◌}
use mathlib.Core.List.{List, [], ◌∷◌, ◌++◌}
use Prim.Native.Nat.{ℕ, ◌≤◌, ◌<◌, ◌+◌, ◌*◌, ◌/◌, ◌%◌}
use native.Mathlib.Numerals.{add-one}
use native.Mathlib.Omega.{arith}
use lib.ListN.{length, drop, get_or, drop_of_length-le}
use lib.Bits.{bit_xor, xor_lt}
use lib.Seq.{drop-cons}
use Rattle.crc.specs.Crc.{crc_byte, crc_from, Remainders}
use Rattle.crc.proofs.Linear.{byte_table}

module _ (c b : ℕ) (hc : c < 65536) (hb : b < 256) where
  -- the place in the table
  pub index_lt : bit_xor (c / 256) b < 256
  index_lt = xor_lt 8 (c / 256) b (omega arith) hb

  -- through a table that keeps the rule the byte step is the rule on bits
  pub by_table : (t : List ℕ) → Remainders t → bit_xor (c * 256 % 65536) (get_or t (bit_xor (c / 256) b) 0) ≡ crc_byte c b
  unfolding Remainders
  by_table t rule = ap (bit_xor (c * 256 % 65536)) (rule (bit_xor (c / 256) b) index_lt) ∙ sym (byte_table c b hc hb)

-- the rest from i is the byte at i and the rest from i + 1
pub step : (r : ℕ) (s : List ℕ) (i : ℕ) → i < length s → crc_from r (drop i s) ≡ crc_from (crc_byte r (get_or s i 0)) (drop (i + 1) s)
unfolding crc_from
step r s i h = rw (add-one, drop-cons s i 0)

pub end : (r : ℕ) (s : List ℕ) (i : ℕ) → length s ≤ i → crc_from r (drop i s) ≡ r
unfolding crc_from
end r s i h = rw (drop_of_length-le s h)

-- one list and then another
pub from_append : (r : ℕ) (xs ys : List ℕ) → crc_from r (xs ++ ys) ≡ crc_from (crc_from r xs) ys
unfolding crc_from
from_append r [] ys = refl
from_append r (x ∷ xs) ys = from_append (crc_byte r x) xs ys
