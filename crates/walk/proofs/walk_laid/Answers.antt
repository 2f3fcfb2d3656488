-- `walk::walk_laid`: the law `laid`.
-- Assumes nothing.
use Rattle.walk.proofs.Laid.{laid}
use Rattle.walk.proofs.walk_laid.Goals as goal

pub returns : goal.returns
returns c = laid
