-- `demands::demand_1`: the law `demand_1`.
-- Assumes nothing.
use Rattle.demands.proofs.Refusing.{demand_1}
use Rattle.demands.proofs.demand_1.Goals as goal

pub returns : goal.returns
returns c = demand_1
