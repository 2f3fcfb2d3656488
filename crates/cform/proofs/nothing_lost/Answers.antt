-- `cform::nothing_lost` states what `Back` proves.
-- Assumes nothing.
use Rattle.cform.proofs.Back.{nothing_lost}
use Rattle.cform.proofs.nothing_lost.Goals as goal

pub returns : goal.returns
returns c = nothing_lost
