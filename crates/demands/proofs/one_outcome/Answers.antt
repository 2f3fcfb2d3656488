-- `demands::one_outcome`: the law `one`.
-- Assumes nothing.
use Rattle.demands.proofs.Single.{one}
use Rattle.demands.proofs.one_outcome.Goals as goal

pub returns : goal.returns
returns c = one
