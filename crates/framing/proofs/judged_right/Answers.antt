-- `framing::judged_right`: the law `judged_right`.
-- Assumes nothing.
use Rattle.framing.proofs.Standing.{judged_right}
use Rattle.framing.proofs.judged_right.Goals as goal

pub returns : goal.returns
returns c = judged_right
