-- `table::fields::triple_ok` meets its contract: three rows or more, or none that fit.
-- Assumes nothing.
use Rattle.std.proofs.Common.{[]}
use Rattle.table.proofs.Loops.{triple_few, triple_some}
use Rattle.table.proofs.fields.triple_ok.Goals as goal

pub returns-in_default : goal.returns-in_default
returns-in_default c = triple_few c.args.rows.now c.in_default.len_below

pub returns-in-len3-up : goal.returns-in-len3-up
returns-in-len3-up c =
    triple_some c.args.rows.now [] c.in-len3-up.len_at_least c.field.ensures.0 c.field-in-len3-up.ensures.0 c.field-in-len3-up-2.ensures.0
    c.is_count.ensures c.is_count-in-len3-up.ensures c.is_count-in-len3-up-2.ensures
