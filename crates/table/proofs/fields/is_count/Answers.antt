-- `table::fields::is_count` meets its contract: its tests are `is_count` as it stands.
-- Assumes nothing.
use mathlib.Core.Path.{refl}
use Rattle.table.proofs.fields.is_count.Goals as goal

pub returns : goal.returns
returns c = refl
