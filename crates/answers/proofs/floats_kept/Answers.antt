-- `answers::floats_kept`: the theorem.
-- Assumes nothing.
use Rattle.answers.proofs.Theorems.{floats_kept}
use Rattle.answers.proofs.floats_kept.Goals as goal

pub returns : goal.returns
returns c = floats_kept
