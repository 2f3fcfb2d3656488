-- `runs::refusals::gives_block` meets its contract: a scan with nothing behind the held bytes.
-- Assumes nothing.
use Rattle.feed.specs.Hold.{rest_of}
use Rattle.runs.proofs.Giving.{gives}
use Rattle.runs.proofs.refusals.gives_block.Goals as goal

pub returns : goal.returns
unfolding rest_of
returns c = gives _ _ _ c.scan-found.ensures
