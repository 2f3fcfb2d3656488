-- `runs::feed` meets its contract: refused, or done.
-- Assumes nothing.
use Rattle.std.proofs.Common.{refl, sym}
use Rattle.runs.specs.Calls.{feed_of}
use Rattle.runs.proofs.feed.Goals as goal

pub feed_on-requires : goal.feed_on-requires
feed_on-requires c = sym (c.in-Ok.ensures _ refl)

pub returns-in-Err : goal.returns-in-Err
unfolding feed_of
returns-in-Err c = rw (sym (c.in-Err.ensures _ refl), c.refused.ensures.0, c.refused.ensures.1)

pub returns-in-Ok : goal.returns-in-Ok
unfolding feed_of
returns-in-Ok c = rw (sym (c.in-Ok.ensures _ refl)) c.feed_on.ensures
