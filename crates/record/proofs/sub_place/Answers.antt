-- `record::sub_place` meets its contract: where the row has it, or nowhere.
-- Assumes nothing.
use Rattle.std.proofs.lemmas.Result.{err_from_is_err_and}
use Rattle.record.proofs.Calls.{place_given, place_refused, twin_given, twin_refused}
use Rattle.record.proofs.sub_place.Goals as goal

pub returns-in_err-nest-clause-handed_value : goal.returns-in_err-nest-clause-handed_value
returns-in_err-nest-clause-handed_value c =
    let p = err_from_is_err_and c.from_residual.result c.from_residual.ensures.1 in
    rw (p.1, p.2) (twin_refused _ _ _ c.in_err-nest.ensures)

pub returns-in_err-nest-clause-span_value : goal.returns-in_err-nest-clause-span_value
returns-in_err-nest-clause-span_value c =
    let p = err_from_is_err_and c.from_residual.result c.from_residual.ensures.1 in
    rw p.1 (place_refused _ _ _ c.in_err-nest.ensures)

pub returns-clause-handed_value : goal.returns-clause-handed_value
returns-clause-handed_value c = twin_given _ _ _ c.in_ok-nest.ensures

pub returns-clause-span_value : goal.returns-clause-span_value
returns-clause-span_value c = place_given _ _ _ c.in_ok-nest.ensures
