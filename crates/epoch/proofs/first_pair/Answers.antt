-- `epoch::first_pair` meets its contract: its low part has the size of its type.
-- Assumes nothing.
use Rattle.kinds.specs.Types.{size_of}
use Rattle.epoch.proofs.first_pair.Goals as goal

pub returns-clause-pair_below : goal.returns-clause-pair_below
unfolding size_of
returns-clause-pair_below c = c.pair_at.ensures.pair_below
