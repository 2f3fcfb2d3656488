-- `demands::demand_2`: the law `demand_2`.
-- Assumes nothing.
use Rattle.demands.proofs.Deciding.{demand_2}
use Rattle.demands.proofs.demand_2.Goals as goal

pub returns : goal.returns
returns c = demand_2
