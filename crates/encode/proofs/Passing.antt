-- A table that passes: its meaning fits, for its numbers are read from bytes, and its rows from so many of them.
-- Assumes nothing.
use mathlib.Core.Bool.{true}
use mathlib.Core.List.{List, [], ◌∷◌, map}
use mathlib.Core.Path.{◌≡◌, refl, ◌∙◌}
use Prim.Native.Nat.{ℕ, zero, suc, ◌+◌, ◌-◌, ◌*◌, ◌<◌, ◌≤◌}
use native.Mathlib.Omega.{arith}
use lib.ListN.{length}
use borrow.Author.Tests.{le-leb, lt-ltb}
use Rattle.wire.specs.Range.{Bytes}
use Rattle.wire.specs.Little.{little_at}
use Rattle.wire.proofs.Tests.{both_true}
use Rattle.rows.specs.declared.Row.{Row}
use Rattle.rows.specs.Places.{version_of, block_count, blocks_at, field_count, field_at, row_from, row_at}
use Rattle.table.specs.Lists.{tabulate, every}
use Rattle.table.specs.Decode.{rows_of, block_of, decode}
use Rattle.table.specs.Rules.{used_fields}
use Rattle.table.proofs.Lists.{length_tab}
use Rattle.table.proofs.Passed.{passed}
use Rattle.encode.specs.Fits.{field_rows, file_size, offset_fits, block_fits, fits}
use Rattle.encode.specs.Theorems.{PassingFits}
use Rattle.encode.proofs.Bytes.{length_rows}

-- the counts of the rows are those of the field rows read
rows_counted : (t : List ℕ) (rs : List Row) → field_rows (map (block_of t) rs) ≡ used_fields rs
unfolding field_rows used_fields block_of
rows_counted t [] = refl
rows_counted t (r ∷ rs) =
    rw (length_tab (field_at t) r.start r.bodies, length_tab (field_at t) (r.start + r.bodies) r.subs, rows_counted t rs)

module _ (t : List ℕ) (bytes : Bytes t) where
  offsets_fit : (i k : ℕ) → every offset_fits (tabulate (field_at t) i k) ≡ true
  unfolding every tabulate field_at
  offsets_fit i zero = refl
  offsets_fit i (suc k) = both_true (lt-ltb _ 256 (bytes (4 * i))) (offsets_fit (i + 1) k)

  block_fits_lem : (p : ℕ) → block_fits (block_of t (row_from t p)) ≡ true
  unfolding block_fits block_of row_from
  block_fits_lem p =
      let r = row_from t p in
      let bodies = rw (← length_tab (field_at t) r.start r.bodies) at (bytes (p + 3)) in
      let subs = rw (← length_tab (field_at t) (r.start + r.bodies) r.subs) at (bytes (p + 6)) in
      both_true (both_true (both_true (lt-ltb _ 256 bodies) (lt-ltb _ 256 subs)) (offsets_fit r.start r.bodies))
      (offsets_fit (r.start + r.bodies) r.subs)

  blocks_fit : (i k : ℕ) → every block_fits (map (block_of t) (tabulate (row_at t) i k)) ≡ true
  unfolding every tabulate row_at
  blocks_fit i zero = refl
  blocks_fit i (suc k) = both_true (block_fits_lem (blocks_at t + 8 * i)) (blocks_fit (i + 1) k)

  version_fits : version_of t < 65536
  unfolding little_at
  version_fits =
      let a = bytes (length t - 12) in
      let b = bytes (length t - 12 + 1) in
      omega arith

pub passing_fits : PassingFits
unfolding fits file_size decode rows_of
passing_fits t bytes ok =
    let all = passed t ok in
    let f = all.file in
    let count = length_rows t bytes ok in
    let rows : field_rows (decode t).rows ≡ field_count t = rows_counted t (rows_of t) ∙ all.used in
    let size : 4 * field_rows (decode t).rows + 8 * length (decode t).rows + 12 ≤ 8192 = rw (rows, count) (omega (arith, f.parts, f.most)) in
    let some : 1 ≤ length (decode t).rows = rw count f.count in
    both_true (both_true (both_true (le-leb _ _ size) (lt-ltb _ _ (version_fits t bytes))) (le-leb _ _ some)) (blocks_fit t bytes 0 (block_count t))
