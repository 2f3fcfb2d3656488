-- `frame::ceiling_ok` meets its contract: the same three tests.
-- Assumes nothing.
use mathlib.Core.Path.{refl}
use Rattle.frame.specs.Frame.{ceiling_ok}
use Rattle.frame.proofs.ceiling_ok.Goals as goal

pub returns : goal.returns
unfolding ceiling_ok
returns c = refl
