-- `table::fields::field_ok` meets its contract: its tests are `field_step` as it stands.
-- Assumes nothing.
use Rattle.table.specs.Code.{field_step}
use Rattle.table.proofs.fields.field_ok.Goals as goal

pub returns : goal.returns
unfolding field_step
returns c = rw c.mark_fits-marked.ensures
