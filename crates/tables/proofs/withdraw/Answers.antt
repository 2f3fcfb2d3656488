-- `tables::withdraw` meets its contract.
-- Assumes nothing.
use Rattle.std.proofs.Common.{sym}
use Rattle.tables.specs.Calls.{withdraw_of, withdraw_refusal}
use Rattle.tables.proofs.withdraw.Goals as goal

pub returns-in-Err : goal.returns-in-Err
unfolding withdraw_of withdraw_refusal
returns-in-Err c = rw (sym c.in-Err.ensures, c.refused.ensures.0, c.refused.ensures.1)

pub returns-in-Ok : goal.returns-in-Ok
unfolding withdraw_of withdraw_refusal
returns-in-Ok c = rw (sym c.in-Ok.ensures)
