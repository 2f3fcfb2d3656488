-- `block::ends_by` meets its contract.
-- Assumes nothing.
use Rattle.block.proofs.ends_by.Goals as goal

pub returns : goal.returns
returns c = rw c.size.ensures.0
