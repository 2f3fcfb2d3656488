-- `demands::demand_3`: the law `demand_3`.
-- Assumes nothing.
use Rattle.demands.proofs.Stream.{demand_3}
use Rattle.demands.proofs.demand_3.Goals as goal

pub returns : goal.returns
returns c = demand_3
