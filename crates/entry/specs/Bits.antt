-- With which bits a field is written, and what may be wanted of it (rules W4 to W6).
-- Assumes nothing.
use Rattle.std.specs.Prelude.{ℕ, suc, ◌-◌, ◌^◌, Bool, ◌&&◌, cond, List, [], ◌∷◌, ltb, eqb, ℤ, pos, negsuc, get_or, drop, Option, None, Some}
use Rattle.kinds.specs.Types.{f4, f8, size_of, is_unsigned, is_signed, half}
use Rattle.kinds.specs.Marks.{is_do_not_use, unset_of}
use Rattle.rows.specs.declared.FieldRow.{FieldRow}
use Rattle.table.specs.Lists.{every, is_some}
use Rattle.table.specs.Lookup.{carried}
use Rattle.value.specs.Said.{FieldSaid, unsigned, signed, single, double, do_not_use, not_in_revision, field_refused}
use Rattle.entry.specs.Wanted.{Wanted, is_unset}

-- W5: a number without sign, within the range of so many bytes
abbrev pub unsigned_bits : ℕ → ℕ → Option ℕ
unsigned_bits size n = cond (ltb n (256 ^ size)) (Some n) None

-- W5: a number with sign, in two's complement: `h` is half of the numbers, and `all` is all of them
abbrev pub signed_within : ℕ → ℕ → ℤ → Option ℕ
signed_within h all (pos n) = cond (ltb n h) (Some n) None
signed_within h all (negsuc n) = cond (ltb n h) (Some (all - suc n)) None

abbrev pub signed_bits : ℕ → ℤ → Option ℕ
signed_bits size z = signed_within (half size) (256 ^ size) z

-- W5, W6: the bits of a type that read as this; none where it is of another kind, or out of range
unfoldable pub bits_for : ℕ → FieldSaid → Option ℕ
bits_for kind (unsigned n) = cond (is_unsigned kind) (unsigned_bits (size_of kind) n) None
bits_for kind (signed z) = cond (is_signed kind) (signed_bits (size_of kind) z) None
bits_for kind (single b) = cond (eqb kind f4) (unsigned_bits 4 b) None
bits_for kind (double b) = cond (eqb kind f8) (unsigned_bits 8 b) None
bits_for kind do_not_use = None
bits_for kind not_in_revision = None
bits_for kind (field_refused n) = None

-- W5: not where they read as Do-Not-Use
abbrev pub unless_marked : FieldRow → Option ℕ → Option ℕ
unless_marked f None = None
unless_marked f (Some x) = cond (is_do_not_use f.mark f.kind x) None (Some x)

-- W5, W6: the bits that a carried field is written with; none where that may not be wanted of it
unfoldable pub bits_of : FieldRow → Wanted → Option ℕ
bits_of f None = unset_of f.mark f.kind
bits_of f (Some said) = unless_marked f (bits_for f.kind said)

-- W5: whether this may be wanted of a field
unfoldable pub wanted_ok : ℕ → FieldRow → Wanted → Bool
wanted_ok revision f w = cond (carried revision f) (is_some (bits_of f w)) (is_unset w)

-- W4, W5: the same of each row and its value; a list that is too short is unset there, and past the last row all is to be unset
unfoldable pub list_ok : ℕ → List FieldRow → List Wanted → Bool
list_ok revision [] ws = every is_unset ws
list_ok revision (f ∷ fs) ws = wanted_ok revision f (get_or ws 0 None) && list_ok revision fs (drop 1 ws)
