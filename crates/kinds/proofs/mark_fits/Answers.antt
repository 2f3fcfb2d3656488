-- `kinds::mark_fits` meets its contract: each arm is an entry of `marks`.
-- Assumes nothing.
use Rattle.kinds.specs.Marks.{mark_fits}
use Rattle.kinds.proofs.mark_fits.Goals as goal

pub returns-in-1 : goal.returns-in-1
unfolding mark_fits
returns-in-1 c = rw c.in-1.is c.is_unsigned.ensures

pub returns-in-2 : goal.returns-in-2
unfolding mark_fits
returns-in-2 c = rw c.in-2.is c.is_unsigned-in-2.ensures
