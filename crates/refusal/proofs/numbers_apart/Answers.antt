-- `refusal::numbers_apart`: the theorem.
-- Assumes nothing.
use Rattle.refusal.proofs.Numbers.{back}
use Rattle.refusal.proofs.numbers_apart.Goals as goal

pub returns : goal.returns
returns c = back
