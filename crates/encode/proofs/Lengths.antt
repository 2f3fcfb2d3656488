-- How long the parts of a table's file are.
-- Assumes nothing.
use mathlib.Core.List.{List, [], ◌∷◌, ◌++◌}
use mathlib.Core.Path.{◌≡◌, refl}
use Prim.Native.Nat.{ℕ, ◌+◌, ◌*◌}
use native.Mathlib.Omega.{arith}
use lib.ListN.{length, length-append}
use Rattle.rows.specs.declared.FieldRow.{FieldRow}
use Rattle.table.specs.Rows.{BlockRow}
use Rattle.encode.specs.Encode.{u2_bytes, field_bytes, fields_part, rows_part}
use Rattle.encode.specs.Fits.{field_rows}

pub length_fields : (fs : List FieldRow) → length (field_bytes fs) ≡ 4 * length fs
unfolding field_bytes
length_fields [] = refl
length_fields (f ∷ fs) = omega (arith, length_fields fs)

pub length_fields_part : (bs : List BlockRow) → length (fields_part bs) ≡ 4 * field_rows bs
unfolding fields_part field_rows
length_fields_part [] = refl
length_fields_part (b ∷ bs) =
    let a = length-append (field_bytes b.body) (field_bytes b.subs ++ fields_part bs) in
    let c = length-append (field_bytes b.subs) (fields_part bs) in
    omega (arith, a, c, length_fields b.body, length_fields b.subs, length_fields_part bs)

pub length_rows_part : (before : ℕ) (bs : List BlockRow) → length (rows_part before bs) ≡ 8 * length bs
unfolding rows_part u2_bytes
length_rows_part before [] = refl
length_rows_part before (b ∷ bs) = omega (arith, length_rows_part (before + (length b.body + length b.subs)) bs)
