-- `kinds::seed_holds`: the theorem.
-- Assumes nothing.
use Rattle.kinds.proofs.Seed.{seed_holds}
use Rattle.kinds.proofs.seed_holds.Goals as goal

pub returns : goal.returns
returns c = seed_holds
