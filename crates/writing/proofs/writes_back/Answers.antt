-- `writing::writes_back`: the law `all_write_back`.
-- Assumes nothing.
use Rattle.writing.proofs.Back.{all_write_back}
use Rattle.writing.proofs.writes_back.Goals as goal

pub returns : goal.returns
returns c = all_write_back
