-- `record::part` meets its contract: the part that stands there.
-- Assumes nothing.
use Rattle.record.specs.Calls.{sub_slice}
use Rattle.record.proofs.part.Goals as goal

pub returns-clause-result_value : goal.returns-clause-result_value
unfolding sub_slice
returns-clause-result_value c = c.part.ensures.result_value
