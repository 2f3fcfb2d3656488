-- `frame::length_allowed` meets its contract: the same three tests.
-- Assumes nothing.
use mathlib.Core.Path.{refl}
use Rattle.frame.specs.Frame.{allowed}
use Rattle.frame.proofs.length_allowed.Goals as goal

pub returns : goal.returns
unfolding allowed
returns c = refl
