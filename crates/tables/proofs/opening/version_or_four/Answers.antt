-- `tables::opening::version_or_four` meets its contract: the check, in the reader's words.
-- Assumes nothing.
use Rattle.tables.proofs.Checking.{checked}
use Rattle.tables.proofs.opening.version_or_four.Goals as goal

pub returns : goal.returns
returns c = rw c.ok_or.ensures.value (checked _ _ c.check.ensures)
