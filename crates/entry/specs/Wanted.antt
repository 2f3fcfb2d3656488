-- What is wanted of a field (rules W2, W3): unset, or what it is to say; and how that is told from kinds and bits.
-- Assumes nothing.
use Rattle.std.specs.Prelude.{ℕ, Bool, not, cond, List, [], ◌∷◌, eqb, get_or, drop, Option, None, Some}
use Rattle.kinds.specs.Types.{half}
use Rattle.table.specs.Lists.{is_some}
use Rattle.value.specs.Said.{FieldSaid, unsigned, signed, single, double, field_refused}
use Rattle.value.specs.Bits.{with_sign}

-- W2: none is unset
abbrev pub Wanted : Type 0
Wanted = Option FieldSaid

abbrev pub is_unset : Wanted → Bool
is_unset w = not (is_some w)

-- W2: entry k is what 64 bits of kind k say
abbrev pub wanted_kinds : List (ℕ → Wanted)
wanted_kinds =
    (λ x. None)
    ∷ (λ x. Some (unsigned x))
    ∷ (λ x. Some (signed (with_sign (half 8) x)))
    ∷ (λ x. Some (single x))
    ∷ (λ x. Some (double x))
    ∷ []

-- W2: any other number is the kind of no field: it stands for a refusal, which no bits read as
unfoldable pub wanted_of : ℕ → ℕ → Wanted
wanted_of kind x = get_or wanted_kinds kind (λ (y : ℕ). Some (field_refused kind)) x

-- W3: the kind that says that a sub-block begins
abbrev pub begins : ℕ
begins = 255

-- W3: the values up to the next sub-block; of kinds that have no bits the bits are 0
unfoldable pub values_in : List ℕ → List ℕ → List Wanted
values_in [] bits = []
values_in (k ∷ kinds) bits = cond (eqb k begins) [] (wanted_of k (get_or bits 0 0) ∷ values_in kinds (drop 1 bits))

-- W3: the values of each sub-block
unfoldable pub subs_in : List ℕ → List ℕ → List (List Wanted)
subs_in [] bits = []
subs_in (k ∷ kinds) bits =
    cond (eqb k begins) (values_in kinds (drop 1 bits) ∷ subs_in kinds (drop 1 bits)) (subs_in kinds (drop 1 bits))
