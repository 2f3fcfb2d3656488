-- `phrases::samples_hold`: antt computes both sides.
-- Assumes nothing.
use mathlib.Core.Path.{refl}
use Rattle.text.specs.Numbers.{decimal}
use Rattle.phrases.proofs.samples_hold.Goals as goal

pub returns : goal.returns
unfolding decimal
returns c = (refl, refl, (refl, refl))
