-- What it says of a table that it fits.
-- Assumes nothing.
use mathlib.Core.Bool.{true, ◌&&◌}
use mathlib.Core.Path.{◌≡◌}
use Prim.Native.Nat.{◌+◌, ◌*◌, ◌≤◌, ◌<◌}
use lib.Dec.{ltb, leb}
use lib.ListN.{length}
use borrow.Author.Tests.{ltb-true, leb-true}
use Rattle.table.specs.Lists.{every}
use Rattle.table.specs.Rows.{Table}
use Rattle.encode.specs.Fits.{field_rows, file_size, block_fits, fits}
use Rattle.wire.proofs.Tests.{both}

pub record Room (tab : Table) : Type 0 where
  pub size : 4 * field_rows tab.rows + 8 * length tab.rows + 12 ≤ 8192
  pub version : tab.version < 65536
  pub count : 1 ≤ length tab.rows
  pub blocks : every block_fits tab.rows ≡ true

pub room : (tab : Table) → fits tab ≡ true → Room tab
unfolding fits file_size
room tab e =
    let a = both (leb (file_size tab) 8192 && ltb tab.version 65536 && leb 1 (length tab.rows)) _ e in
    let b = both (leb (file_size tab) 8192 && ltb tab.version 65536) _ a.0 in
    let c = both (leb (file_size tab) 8192) _ b.0 in
    record { size = leb-true _ _ c.0; version = ltb-true _ _ c.1; count = leb-true _ _ b.1; blocks = a.1 }
