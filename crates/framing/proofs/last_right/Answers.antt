-- `framing::last_right`: the law `last_right`.
-- Assumes nothing.
use Rattle.framing.proofs.Deciding.{last_right}
use Rattle.framing.proofs.last_right.Goals as goal

pub returns : goal.returns
returns c = last_right
