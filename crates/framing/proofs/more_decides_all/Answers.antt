-- `framing::more_decides_all`: the law `more_decides_all`.
-- Assumes nothing.
use Rattle.framing.proofs.Calls.{more_decides_all}
use Rattle.framing.proofs.more_decides_all.Goals as goal

pub returns : goal.returns
returns c = more_decides_all
