-- `table::find` meets its contract. The invariant: the first row of that number is among the rows that are left.
-- Assumes nothing.
use mathlib.Core.Path.{◌≡◌}
use Prim.Native.Nat.{◌≤◌, ◌+◌, ◌-◌, ◌*◌}
use lib.ListN.{length}
use Rattle.rows.specs.Places.{row_at}
use Rattle.table.specs.Decode.{rows_of}
use Rattle.table.specs.Lists.{tabulate, first_that}
use Rattle.table.proofs.Loops.{numbered}
use Rattle.table.proofs.find.Given as goal

abbrev pub invariant-loop-i : goal.invariant-loop-i
invariant-loop-i l =
    (l.i ≤ l.count) × (l.at + 8 * l.count ≤ length l.t) × (first_that (numbered l.number) (rows_of l.t) ≡ first_that (numbered l.number) (tabulate (row_at l.t) l.i (l.count - l.i)))
