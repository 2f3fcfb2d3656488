-- `answers::by_meaning`: the theorem.
-- Assumes nothing.
use Rattle.answers.proofs.Theorems.{by_meaning}
use Rattle.answers.proofs.by_meaning.Goals as goal

pub returns : goal.returns
returns c = by_meaning
