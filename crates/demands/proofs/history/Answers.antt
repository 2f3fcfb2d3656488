-- `demands::history`: the law `history`.
-- Assumes nothing.
use Rattle.demands.proofs.Telling.{history}
use Rattle.demands.proofs.history.Goals as goal

pub returns : goal.returns
returns c = history
