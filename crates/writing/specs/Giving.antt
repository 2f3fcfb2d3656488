-- How drafts are given (rules W2, W3): every one that is allowed can be given as numbers, and what numbers at the limits say.
-- Assumes nothing.
use Rattle.std.specs.Prelude.{ℕ, ◌^◌, ◌<◌, true, List, [], ◌∷◌, map, ◌≡◌, pos, negsuc, length, get_or, None, Some}
use Rattle.wire.specs.Range.{Bytes}
use Rattle.table.specs.Rows.{BlockRow}
use Rattle.value.specs.Said.{unsigned, signed, single, double, field_refused}
use Rattle.entry.specs.declared.Entry.{Entry}
use Rattle.entry.specs.Wanted.{Wanted, wanted_of, begins, values_in, subs_in}
use Rattle.draft.specs.declared.Head.{Head}
use Rattle.draft.specs.Draft.{Draft, draft_of, draft_ok}

-- ---- every draft that is allowed

-- W2: a kind in a byte, and 64 bits
pub record InEntry (e : Entry) : Type 0 where
  pub kind : e.kind < 256
  pub bits : e.bits < 2 ^ 64

-- W1 to W3: numbers that a caller can give, and that say this draft; the two lists have one length
pub record Gives (d : Draft) (h : Head) (kinds bits : List ℕ) : Type 0 where
  pub is : draft_of h kinds bits ≡ d
  pub number : h.number < 2 ^ 64
  pub revision : h.revision < 2 ^ 64
  pub tow : InEntry h.tow
  pub wnc : InEntry h.wnc
  pub lengths : length bits ≡ length kinds
  pub kinds_in : Bytes kinds
  pub bits_in : (j : ℕ) → get_or bits j 0 < 2 ^ 64

abbrev pub CanBeGiven : Type 0
CanBeGiven =
    (r : BlockRow) (d : Draft) → draft_ok r d ≡ true → d.number < 2 ^ 64
    → (h : Head) × (kinds : List ℕ) × (bits : List ℕ) × Gives d h kinds bits

-- ---- what numbers say

-- lists of values: one by one of a kind at the limits of 64 bits, or the body's and then those of each sub-block
pub record GivingCase : Type 0 where
  pub given : List (List Wanted)
  pub expected : List (List Wanted)

-- W2: bits 0, 2^63 - 1, 2^63 and 2^64 - 1 of a kind
abbrev at_limits : ℕ → List Wanted → GivingCase
at_limits kind expected =
    record {
      given = map (wanted_of kind) (0 ∷ 0x7FFFFFFFFFFFFFFF ∷ 0x8000000000000000 ∷ 0xFFFFFFFFFFFFFFFF ∷ []) ∷ [];
      expected = expected ∷ [];
    }

-- W3: a pair of lists
abbrev in_lists : List ℕ → List ℕ → List (List Wanted) → GivingCase
in_lists kinds bits expected = record { given = values_in kinds bits ∷ subs_in kinds bits; expected = expected }

-- W2: of no field
abbrev of_no_field : ℕ → List Wanted
of_no_field kind = Some (field_refused kind) ∷ Some (field_refused kind) ∷ Some (field_refused kind) ∷ Some (field_refused kind) ∷ []

abbrev pub giving_cases : List GivingCase
giving_cases =
    at_limits 0 (None ∷ None ∷ None ∷ None ∷ [])
    ∷ at_limits 1
    (Some (unsigned 0) ∷ Some (unsigned 0x7FFFFFFFFFFFFFFF) ∷ Some (unsigned 0x8000000000000000) ∷ Some (unsigned 0xFFFFFFFFFFFFFFFF) ∷ [])
    -- the highest number is 2^63 - 1, the lowest -2^63 (one below the opposite of the highest), and all ones are -1
    ∷ at_limits 2
    (Some (signed (pos 0)) ∷ Some (signed (pos 0x7FFFFFFFFFFFFFFF)) ∷ Some (signed (negsuc 0x7FFFFFFFFFFFFFFF)) ∷ Some (signed (negsuc 0)) ∷ [])
    ∷ at_limits 3
    (Some (single 0) ∷ Some (single 0x7FFFFFFFFFFFFFFF) ∷ Some (single 0x8000000000000000) ∷ Some (single 0xFFFFFFFFFFFFFFFF) ∷ [])
    ∷ at_limits 4
    (Some (double 0) ∷ Some (double 0x7FFFFFFFFFFFFFFF) ∷ Some (double 0x8000000000000000) ∷ Some (double 0xFFFFFFFFFFFFFFFF) ∷ [])
    ∷ at_limits 5 (of_no_field 5)
    ∷ at_limits 6 (of_no_field 6)
    ∷ at_limits 200 (of_no_field 200)
    -- no kinds, with bits and without
    ∷ in_lists [] [] ([] ∷ [])
    ∷ in_lists [] (7 ∷ 8 ∷ []) ([] ∷ [])
    -- a body, and sub-blocks of one value, of none and of two; the bits where a sub-block begins are not looked at
    ∷ in_lists
    (1 ∷ 0 ∷ begins ∷ 2 ∷ begins ∷ begins ∷ 3 ∷ 4 ∷ [])
    (7 ∷ 8 ∷ 9 ∷ 0xFFFFFFFFFFFFFFFF ∷ 10 ∷ 11 ∷ 12 ∷ 13 ∷ [])
    ((Some (unsigned 7) ∷ None ∷ []) ∷ (Some (signed (negsuc 0)) ∷ []) ∷ [] ∷ (Some (single 12) ∷ Some (double 13) ∷ []) ∷ [])
    -- no body
    ∷ in_lists (begins ∷ 1 ∷ []) (9 ∷ 7 ∷ []) ([] ∷ (Some (unsigned 7) ∷ []) ∷ [])
    -- a kind of no field begins no sub-block
    ∷ in_lists (6 ∷ 1 ∷ []) (9 ∷ 7 ∷ []) ((Some (field_refused 6) ∷ Some (unsigned 7) ∷ []) ∷ [])
    -- fewer bits than kinds: the missing ones are 0
    ∷ in_lists
    (1 ∷ 1 ∷ begins ∷ 2 ∷ 0 ∷ [])
    (7 ∷ [])
    ((Some (unsigned 7) ∷ Some (unsigned 0) ∷ []) ∷ (Some (signed (pos 0)) ∷ None ∷ []) ∷ [])
    ∷ in_lists (1 ∷ []) [] ((Some (unsigned 0) ∷ []) ∷ [])
    -- more bits than kinds
    ∷ in_lists (1 ∷ begins ∷ 1 ∷ []) (7 ∷ 8 ∷ 9 ∷ 10 ∷ 11 ∷ []) ((Some (unsigned 7) ∷ []) ∷ (Some (unsigned 9) ∷ []) ∷ [])
    ∷ []

abbrev pub GivingHolds : Type 0
GivingHolds = map (λ (c : GivingCase). c.given) giving_cases ≡ map (λ (c : GivingCase). c.expected) giving_cases
