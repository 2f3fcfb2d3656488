-- `framing::decided_stays`: the judge's law `stays`.
-- Assumes nothing.
use Rattle.scan.proofs.Stable.{judging}
use Rattle.framing.proofs.decided_stays.Goals as goal

pub returns : goal.returns
returns c = λ k. (judging k).stays
