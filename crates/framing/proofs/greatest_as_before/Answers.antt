-- `framing::greatest_as_before`: the law `greatest_as_before`.
-- Assumes nothing.
use Rattle.framing.proofs.Before.{greatest_as_before}
use Rattle.framing.proofs.greatest_as_before.Goals as goal

pub returns : goal.returns
returns c = greatest_as_before
