-- `answers::one_level_as_before`: the theorem.
-- Assumes nothing.
use Rattle.answers.proofs.OneLevel.{one_level_lem}
use Rattle.answers.proofs.one_level_as_before.Goals as goal

pub returns : goal.returns
returns c = one_level_lem
