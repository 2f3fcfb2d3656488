-- `writing::least`: the law `all_shortest`.
-- Assumes nothing.
use Rattle.writing.proofs.Ends.{all_shortest}
use Rattle.writing.proofs.least.Goals as goal

pub returns : goal.returns
returns c = all_shortest
