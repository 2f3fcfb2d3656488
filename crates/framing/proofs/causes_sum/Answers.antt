-- `framing::causes_sum`: the law `causes_sum`.
-- Assumes nothing.
use Rattle.framing.proofs.Why.{causes_sum}
use Rattle.framing.proofs.causes_sum.Goals as goal

pub returns : goal.returns
returns c = causes_sum
