-- `table::find` meets its contract. The invariant: the first row of that number is among the rows that are left.
-- Assumes nothing.
use native.Mathlib.Nat.{sub-zero}
use native.Mathlib.Omega.{arith}
use Rattle.table.specs.Decode.{rows_of}
use Rattle.table.proofs.Laws.{found_at, found_nothing}
use Rattle.table.proofs.Loops.{find_done, find_stop, find_go}
use Rattle.table.proofs.Passed.{passed, stands_in}
use Rattle.table.proofs.find.Goals as goal

pub block_count-count-requires : goal.block_count-count-requires
block_count-count-requires c = omega (arith, (passed _ c.requires).file)

pub blocks_at-at-requires : goal.blocks_at-at-requires
blocks_at-at-requires c = omega (arith, (passed _ c.requires).file)

pub loop-i-init : goal.loop-i-init
unfolding rows_of
loop-i-init c = (omega arith, omega (arith, (passed _ c.requires).file), rw (sub-zero, c.block_count-count.ensures.0))

pub shaped-requires : goal.shaped-requires
shaped-requires c = stands_in _ c.requires c.loop-i.i (omega arith) c.row_at-r.ensures.0

pub returns-then-r-number : goal.returns-then-r-number
returns-then-r-number c =
    found_at _ _ c.requires
    (find_stop _ _ _ _ _ c.loop-i.invariant.2 _ c.row_at-r.ensures.0 (omega arith) c.if-r-number.true) c.row_at-r.ensures.0 (omega arith) c.shaped.ensures

pub loop-i-preserved : goal.loop-i-preserved
loop-i-preserved c =
    (omega arith, omega arith, find_go _ _ _ _ _ c.loop-i.invariant.2 _ c.row_at-r.ensures.0 (omega arith) c.if-r-number.false _ _ (omega arith) (omega arith))

pub returns : goal.returns
returns c = found_nothing _ _ (find_done _ _ _ _ _ c.loop-i.invariant.2 (omega arith))
