-- `demands::takes_no_more`: the law `takes_no_more`.
-- Assumes nothing.
use Rattle.demands.proofs.NoMore.{takes_no_more}
use Rattle.demands.proofs.takes_no_more.Goals as goal

pub returns : goal.returns
returns c = takes_no_more
