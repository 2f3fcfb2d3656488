-- Working definitions for the code: the bits of what is wanted, by a type, and a value taken from a list at a place.
-- Assumes nothing.
use Rattle.std.specs.Prelude.{ℕ, ◌≤◌, List, ◌≡◌, length, get_or, drop, Option, None, Some}
use Rattle.entry.specs.declared.Taken.{Taken}
use Rattle.entry.specs.Wanted.{Wanted, wanted_of, values_in, subs_in}
use Rattle.entry.specs.Bits.{bits_for}

-- the bits of a type that read as what is wanted; none for unset
abbrev pub wanted_bits : ℕ → Wanted → Option ℕ
wanted_bits kind None = None
wanted_bits kind (Some said) = bits_for kind said

-- the value at p, and the list from the next one on
pub record Taking (kinds bits : List ℕ) (p : ℕ) (t : Taken) : Type 0 where
  pub is : wanted_of t.entry.kind t.entry.bits ≡ get_or (values_in (drop p kinds) (drop p bits)) 0 None
  pub rest : values_in (drop t.next kinds) (drop t.next bits) ≡ drop 1 (values_in (drop p kinds) (drop p bits))
  pub subs : subs_in (drop t.next kinds) (drop t.next bits) ≡ subs_in (drop p kinds) (drop p bits)
  pub within : t.next ≤ length kinds
  pub onward : p ≤ t.next
