-- `framing::decided_exactly`: the law `decided_exactly`.
-- Assumes nothing.
use Rattle.framing.proofs.Deciding.{decided_exactly}
use Rattle.framing.proofs.decided_exactly.Goals as goal

pub returns : goal.returns
returns c = decided_exactly
