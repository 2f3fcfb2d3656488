-- `answers::one_answer`: the theorem.
-- Assumes nothing.
use Rattle.answers.proofs.Theorems.{one_answer}
use Rattle.answers.proofs.one_answer.Goals as goal

pub returns : goal.returns
returns c = one_answer
