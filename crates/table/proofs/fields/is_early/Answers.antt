-- `table::fields::is_early` meets its contract.
-- Assumes nothing.
use Rattle.table.proofs.fields.is_early.Goals as goal

pub returns : goal.returns
returns c = rw c.size.ensures.0
