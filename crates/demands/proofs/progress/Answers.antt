-- `demands::progress`: the law `progress`.
-- Assumes nothing.
use Rattle.demands.proofs.Ending.{progress}
use Rattle.demands.proofs.progress.Goals as goal

pub returns : goal.returns
returns c = progress
