-- `kinds::grid_holds`: antt computes the grid.
-- Assumes nothing.
use mathlib.Core.Path.{refl}
use Rattle.kinds.specs.Types.{size_of}
use Rattle.kinds.specs.Marks.{mark_fits, is_do_not_use}
use Rattle.kinds.proofs.grid_holds.Goals as goal

pub returns : goal.returns
unfolding size_of mark_fits is_do_not_use
returns c = refl
