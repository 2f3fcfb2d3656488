-- `epoch::range2` meets its contract: each return is one law of `range2_field`.
-- Assumes nothing.
use mathlib.Core.Logic.{inl, inr}
use Rattle.std.proofs.lemmas.Result.{err_from_is_err_and}
use Rattle.epoch.proofs.Ranges.{range2_refused, range2_9, range2_none, range2_says}
use Rattle.epoch.proofs.range2.Goals as goal

pub returns-in_err-row : goal.returns-in_err-row
returns-in_err-row c =
    let p = err_from_is_err_and c.from_residual.result c.from_residual.ensures.1 in
    rw (p.1, p.2) (range2_refused _ _ _ _ c.in_err-row.ensures)

pub returns-then-not-is_epoch : goal.returns-then-not-is_epoch
returns-then-not-is_epoch c =
    elim c.then-not-is_epoch.either [
      | inl f ↦ range2_9 _ _ _ c.in_ok-row.ensures c.is_epoch.ensures _ f
      | inr f ↦ range2_none _ _ _ c.in_ok-row.ensures c.is_epoch.ensures _ f.0 f.1
    ]

pub returns : goal.returns
returns c =
    let second = c.second_pair-second.ensures.result_value in
    let there = rw c.second_span-span.ensures at second in
    range2_says _ _ _ c.in_ok-row.ensures c.is_epoch.ensures _ c.if-not-is_epoch.false c.if-nest-m.false
    c.first_pair-first.ensures.result_value there c.range2.ensures
