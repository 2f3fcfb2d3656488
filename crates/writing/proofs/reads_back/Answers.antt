-- `writing::reads_back`: the law `all_read_back`.
-- Assumes nothing.
use Rattle.writing.proofs.Reading.{all_read_back}
use Rattle.writing.proofs.reads_back.Goals as goal

pub returns : goal.returns
returns c = all_read_back
