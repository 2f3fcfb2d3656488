-- The file of a table, whole: its length, what its trailer says, and that it decodes to the table.
-- Assumes nothing.
use mathlib.Core.List.{List, [], ◌∷◌, ◌++◌, append_assoc}
use mathlib.Core.Path.{◌≡◌, ap, ◌∙◌}
use Prim.Native.Nat.{ℕ, ◌+◌, ◌-◌, ◌*◌}
use native.Mathlib.Omega.{arith}
use lib.ListN.{length, get_or, drop, length-append}
use lib.Seq.{drop-append-add, take_at, drop_at}
use Rattle.crc.specs.Crc.{crc_of}
use Rattle.rows.specs.Places.{version_of, block_count, blocks_at, field_count}
use Rattle.table.specs.Rows.{Table}
use Rattle.table.specs.Decode.{to_blocks, to_fields, crc_field, covered, rows_of, decode}
use Rattle.encode.specs.Encode.{u2_bytes, fields_part, rows_part, unsealed, encode}
use Rattle.encode.specs.Fits.{field_rows}
use Rattle.encode.proofs.Reading.{here, two_at}
use Rattle.encode.proofs.Lengths.{length_fields_part, length_rows_part}
use Rattle.encode.proofs.Laid.{rows_for}
use Rattle.encode.proofs.Back.{rows_back, blocks_back}

module _ (tab : Table) where
  abbrev t : List ℕ
  t = encode tab

  abbrev all_fields : List ℕ
  all_fields = fields_part tab.rows

  abbrev all_rows : List ℕ
  all_rows = rows_part 0 tab.rows

  abbrev count : ℕ
  count = length tab.rows

  abbrev numbers : List ℕ
  numbers = u2_bytes tab.version ++ (u2_bytes count ++ (u2_bytes (12 + 8 * count) ++ u2_bytes (length (all_fields ++ all_rows) + 12)))

  abbrev seal : List ℕ
  seal = u2_bytes (crc_of (unsealed tab)) ++ (0x42 ∷ 0x54 ∷ [])

  whole : t ≡ all_fields ++ all_rows ++ (numbers ++ seal)
  unfolding encode unsealed
  whole = append_assoc (all_fields ++ all_rows) numbers seal

  parts : t ≡ all_fields ++ (all_rows ++ (numbers ++ seal))
  parts = whole ∙ append_assoc all_fields all_rows (numbers ++ seal)

  pub length_rows : length (all_fields ++ all_rows) ≡ 4 * field_rows tab.rows + 8 * count
  length_rows = length-append all_fields all_rows ∙ rw (length_fields_part tab.rows, length_rows_part 0 tab.rows)

  pub length_file : length t ≡ 4 * field_rows tab.rows + 8 * count + 12
  unfolding u2_bytes
  length_file = ap length whole ∙ length-append (all_fields ++ all_rows) (numbers ++ seal) ∙ ap (λ (n : ℕ). n + 12) length_rows

  -- the rest from a place of the trailer
  from : (p k : ℕ) → p ≡ length (all_fields ++ all_rows) + k → drop p t ≡ drop k (numbers ++ seal)
  from p k e = rw (e, whole) (drop-append-add (all_fields ++ all_rows) (numbers ++ seal) k)

  version_is_lem : version_of t ≡ tab.version
  unfolding u2_bytes
  version_is_lem = two_at t (length t - 12) tab.version (from (length t - 12) 0 (omega (arith, length_file, length_rows)))

  pub count_is : block_count t ≡ count
  unfolding u2_bytes
  count_is = two_at t (length t - 10) count (from (length t - 10) 2 (omega (arith, length_file, length_rows)))

  pub to_blocks_lem : to_blocks t ≡ 12 + 8 * count
  unfolding u2_bytes
  to_blocks_lem = two_at t (length t - 8) (12 + 8 * count) (from (length t - 8) 4 (omega (arith, length_file, length_rows)))

  to_start : to_fields t ≡ length (all_fields ++ all_rows) + 12
  unfolding u2_bytes
  to_start = two_at t (length t - 6) (length (all_fields ++ all_rows) + 12) (from (length t - 6) 6 (omega (arith, length_file, length_rows)))

  pub to_fields_lem : to_fields t ≡ length t
  to_fields_lem = omega (arith, to_start, length_file, length_rows)

  crc_stands : crc_field t ≡ crc_of (unsealed tab)
  unfolding u2_bytes
  crc_stands = two_at t (length t - 4) (crc_of (unsealed tab)) (from (length t - 4) 8 (omega (arith, length_file, length_rows)))

  covered_is : covered t ≡ unsealed tab
  unfolding encode u2_bytes
  covered_is =
      let l = length-append (unsealed tab) seal in
      take_at (unsealed tab) seal (length t - 4) (omega (arith, l))

  pub crc_is : crc_field t ≡ crc_of (covered t)
  crc_is = rw covered_is crc_stands

  pub low : get_or t (length t - 2) 0 ≡ 0x42
  unfolding u2_bytes
  low = here t (length t - 2) (from (length t - 2) 10 (omega (arith, length_file, length_rows)))

  pub high : get_or t (length t - 1) 0 ≡ 0x54
  unfolding u2_bytes
  high = here t (length t - 1) (from (length t - 1) 11 (omega (arith, length_file, length_rows)))

  rows_at : blocks_at t ≡ 4 * field_rows tab.rows
  rows_at = omega (arith, length_file, count_is)

  pub fields_are : field_count t ≡ field_rows tab.rows
  fields_are = omega (arith, rows_at)

  pub rows_are : rows_of t ≡ rows_for 0 tab.rows
  unfolding rows_of
  rows_are =
      let p = blocks_at t + 8 * 0 in
      let l : length all_fields ≡ p = omega (arith, rows_at, length_fields_part tab.rows) in
      let e : drop p t ≡ all_rows ++ (numbers ++ seal) = ap (drop p) parts ∙ drop_at all_fields (all_rows ++ (numbers ++ seal)) p l in
      rw count_is (rows_back t 0 0 tab.rows (numbers ++ seal) e)

  pub decoded : decode t ≡ tab
  unfolding decode
  decoded = rw (version_is_lem, rows_are, blocks_back t 0 tab.rows (all_rows ++ (numbers ++ seal)) parts)
