-- What the bits of a field mean, by its type and mark (rules V1 to V4).
-- Assumes nothing.
use Rattle.std.specs.Prelude.{ℕ, suc, ◌+◌, ◌-◌, List, [], ◌∷◌, cond, get_or, ltb, ℤ, pos, negsuc}
use Rattle.wire.specs.Little.{little_at}
use Rattle.kinds.specs.Types.{size_of, half}
use Rattle.kinds.specs.Marks.{is_do_not_use}
use Rattle.rows.specs.declared.FieldRow.{FieldRow}
use Rattle.value.specs.Said.{FieldSaid, unsigned, signed, single, double, do_not_use}

-- V1: x in two's complement, where h is half of the numbers
unfoldable pub with_sign : ℕ → ℕ → ℤ
with_sign h x = cond (ltb x h) (pos x) (negsuc (h + h - suc x))

abbrev pub signed_in : ℕ → ℕ → FieldSaid
signed_in size x = signed (with_sign (half size) x)

-- V1: entry k is how bits of type k are read; no type is 0
abbrev pub readings : List (ℕ → FieldSaid)
readings =
    unsigned ∷ unsigned ∷ unsigned ∷ unsigned ∷ unsigned ∷ signed_in 1 ∷ signed_in 2 ∷ signed_in 4 ∷ signed_in 8 ∷ single ∷ double ∷ []

unfoldable pub read_as : ℕ → ℕ → FieldSaid
read_as kind x = get_or readings kind unsigned x

-- V4: Do-Not-Use where the bits are the mark's
unfoldable pub value_of : ℕ → ℕ → ℕ → FieldSaid
value_of kind mark x = cond (is_do_not_use mark kind x) do_not_use (read_as kind x)

-- what the field of a row says where it is carried: its offset counts from the start of these bytes
unfoldable pub field_value : List ℕ → FieldRow → FieldSaid
field_value s f = value_of f.kind f.mark (little_at (size_of f.kind) s f.offset)
