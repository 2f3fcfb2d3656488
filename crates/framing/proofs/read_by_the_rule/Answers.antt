-- `framing::read_by_the_rule`: the law `rule`.
-- Assumes nothing.
use Rattle.framing.proofs.Reading.{rule}
use Rattle.framing.proofs.read_by_the_rule.Goals as goal

pub returns : goal.returns
returns c = rule
