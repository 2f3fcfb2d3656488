-- `table::blocks::row_ok` meets its contract: its tests are `row_step` as it stands.
-- Assumes nothing.
use mathlib.Core.Path.{refl}
use Rattle.table.specs.Code.{row_step}
use Rattle.table.proofs.blocks.row_ok.Goals as goal

pub returns : goal.returns
unfolding row_step
returns c = refl
