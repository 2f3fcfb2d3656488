-- `writing::can_be_given`: the law `can_be_given`.
-- Assumes nothing.
use Rattle.writing.proofs.Giving.{can_be_given}
use Rattle.writing.proofs.can_be_given.Goals as goal

pub returns : goal.returns
returns c = can_be_given
