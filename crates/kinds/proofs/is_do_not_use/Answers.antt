-- `kinds::is_do_not_use` meets its contract: each arm is its entry of `marks`.
-- Assumes nothing.
use Rattle.kinds.specs.Marks.{is_do_not_use}
use Rattle.kinds.proofs.is_do_not_use.Goals as goal

pub returns-in-2 : goal.returns-in-2
unfolding is_do_not_use
returns-in-2 c = rw c.in-2.is
