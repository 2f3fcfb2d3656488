-- `block::sub_row_of` meets its contract: each return is one law of `seen_sub`.
-- Assumes nothing.
use native.Mathlib.Omega.{arith}
use Rattle.std.proofs.lemmas.Result.{err_from_is_err_and}
use Rattle.block.proofs.Blocks.{sub_refused, sub_none, sub_past, sub_at}
use Rattle.block.proofs.sub_row_of.Goals as goal
use Rattle.block.proofs.sub_row_of.Goals.{then-row-eq0-via-then-row-eq0, then-row-eq0-via-else-row-eq0+then-from-k}

pub returns-in_err-row : goal.returns-in_err-row
returns-in_err-row c =
    let p = err_from_is_err_and c.from_residual.result c.from_residual.ensures.1 in
    rw (p.1, p.2) (sub_refused _ _ _ c.in_err-row.ensures)

pub bounds-block-14 : goal.bounds-block-14
bounds-block-14 c = omega (arith, c.in_ok-row.ensures.fine.fine.long)

pub returns-then-row-eq0 : goal.returns-then-row-eq0
returns-then-row-eq0 c =
    elim c.then-row-eq0.branch [
      | then-row-eq0-via-then-row-eq0 w ↦ sub_none _ _ _ _ _ c.in_ok-row.ensures w.if-row-eq0.true
      | then-row-eq0-via-else-row-eq0+then-from-k w ↦ sub_past _ _ _ _ _ c.in_ok-row.ensures w.if-row-eq0.false w.from.ensures (omega arith)
    ]

pub returns : goal.returns
returns c = sub_at _ _ _ _ _ c.in_ok-row.ensures c.if-row-eq0.false c.from.ensures (omega arith)
