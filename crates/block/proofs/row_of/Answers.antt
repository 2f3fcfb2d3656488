-- `block::row_of` meets its contract: what `look` answers, without its sub-block.
-- Assumes nothing.
use Rattle.std.proofs.lemmas.Result.{err_from_is_err_and}
use Rattle.block.proofs.Blocks.{row_refused, row_at}
use Rattle.block.proofs.row_of.Goals as goal

pub returns-in_err-row : goal.returns-in_err-row
returns-in_err-row c =
    let p = err_from_is_err_and c.from_residual.result c.from_residual.ensures.1 in
    rw (p.1, p.2) (row_refused _ _ _ c.in_err-row.ensures)

pub returns : goal.returns
returns c = row_at _ _ _ _ _ c.in_ok-row.ensures
