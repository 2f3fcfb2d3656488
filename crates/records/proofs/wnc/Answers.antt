-- `records::wnc` meets its contract: 1, or what the stamp says.
-- Assumes nothing.
use Rattle.std.proofs.lemmas.Result.{err_from_is_err_and}
use Rattle.record.proofs.Calls.{refuses}
use Rattle.records.specs.Calls.{stamp_of}
use Rattle.records.proofs.wnc.Goals as goal

pub returns-in_err-of_state : goal.returns-in_err-of_state
unfolding stamp_of
returns-in_err-of_state c =
    let p = err_from_is_err_and c.from_residual.result c.from_residual.ensures.1 in
    rw (p.1, p.2, ← c.in_err-of_state.ensures) (refuses _)

pub returns : goal.returns
unfolding stamp_of
returns c = rw (← c.in_ok-of_state.ensures) c.wnc.ensures
