-- `demands::waits_less`: the law `waits_less`.
-- Assumes nothing.
use Rattle.demands.proofs.Waiting.{waits_less}
use Rattle.demands.proofs.waits_less.Goals as goal

pub returns : goal.returns
returns c = waits_less
