-- `framing::why_right`: the law `why_right`.
-- Assumes nothing.
use Rattle.framing.proofs.Why.{why_right}
use Rattle.framing.proofs.why_right.Goals as goal

pub returns : goal.returns
returns c = why_right
