-- `table::one_row`: the law `one_row`.
-- Assumes nothing.
use Rattle.table.proofs.Laws.{one_row}
use Rattle.table.proofs.one_row.Goals as goal

pub returns : goal.returns
returns c = one_row
