-- `epoch::range` meets its contract: each return is one law of `range_field`.
-- Assumes nothing.
use Rattle.std.proofs.lemmas.Result.{err_from_is_err_and}
use Rattle.epoch.proofs.Ranges.{range_refused, range_9, range_says}
use Rattle.epoch.proofs.range.Goals as goal

pub returns-in_err-row : goal.returns-in_err-row
returns-in_err-row c =
    let p = err_from_is_err_and c.from_residual.result c.from_residual.ensures.1 in
    rw (p.1, p.2) (range_refused _ _ _ c.in_err-row.ensures)

pub returns-then-not-is_epoch : goal.returns-then-not-is_epoch
returns-then-not-is_epoch c = range_9 _ _ _ c.in_ok-row.ensures c.is_epoch.ensures c.if-not-is_epoch.true

pub returns : goal.returns
returns c = range_says _ _ _ c.in_ok-row.ensures c.is_epoch.ensures c.if-not-is_epoch.false c.first_pair.ensures.result_value c.range.ensures
