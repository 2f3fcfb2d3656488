-- `writing::one_frame`: the law `all_framed`.
-- Assumes nothing.
use Rattle.writing.proofs.Framed.{all_framed}
use Rattle.writing.proofs.one_frame.Goals as goal

pub returns : goal.returns
returns c = all_framed
