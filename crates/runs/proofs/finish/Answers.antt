-- `runs::finish` meets its contract: refused, or done.
-- Assumes nothing.
use Rattle.std.proofs.Common.{refl, sym}
use Rattle.runs.specs.Calls.{finish_of}
use Rattle.runs.proofs.finish.Goals as goal

pub finish_on-requires : goal.finish_on-requires
finish_on-requires c = sym (c.in-Ok.ensures _ refl)

pub returns-in-Err : goal.returns-in-Err
unfolding finish_of
returns-in-Err c = rw (sym (c.in-Err.ensures _ refl), c.refused.ensures.0, c.refused.ensures.1)

pub returns-in-Ok : goal.returns-in-Ok
unfolding finish_of
returns-in-Ok c = rw (sym (c.in-Ok.ensures _ refl)) c.finish_on.ensures
