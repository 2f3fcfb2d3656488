-- `feed::left_for_next`: the law `goes_on`.
-- Assumes nothing.
use Rattle.feed.proofs.Literally.{goes_on}
use Rattle.feed.proofs.left_for_next.Goals as goal

pub returns : goal.returns
returns c = goes_on
