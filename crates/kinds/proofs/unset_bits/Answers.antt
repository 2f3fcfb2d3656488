-- `kinds::unset_bits` meets its contract: each arm is its entry of `marks`.
-- Assumes nothing.
use Rattle.kinds.specs.Marks.{unset_of}
use Rattle.kinds.proofs.unset_bits.Goals as goal

pub returns-in-2 : goal.returns-in-2
unfolding unset_of
returns-in-2 c = rw c.in-2.is

pub returns-in-5 : goal.returns-in-5
unfolding unset_of
returns-in-5 c = rw c.in-5.is
