-- `answers::two_levels_laid`, by the module TwoLevels.
-- Assumes nothing.
use Rattle.answers.proofs.TwoLevels.{two_levels_laid}
use Rattle.answers.proofs.two_levels_laid.Goals as goal

pub returns : goal.returns
returns c = two_levels_laid
