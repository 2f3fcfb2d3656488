-- `kinds::unset_is_told`: the theorem.
-- Assumes nothing.
use Rattle.kinds.proofs.Unset.{unset_is_told}
use Rattle.kinds.proofs.unset_is_told.Goals as goal

pub returns : goal.returns
returns c = unset_is_told
