-- `epoch::pair_at` meets its contract: both numbers, or none.
-- Assumes nothing.
use Rattle.epoch.specs.Ranges.{pair_at}
use Rattle.epoch.proofs.pair_at.Goals as goal

pub returns-clause-result_value : goal.returns-clause-result_value
unfolding pair_at
returns-clause-result_value c = cc
