-- `table::fields::pair_ok` meets its contract: two rows, or none that fit.
-- Assumes nothing.
use Rattle.std.proofs.Common.{[]}
use Rattle.table.proofs.Loops.{pair_two, pair_few, pair_many}
use Rattle.table.proofs.fields.pair_ok.Goals as goal

pub returns-in-len2 : goal.returns-in-len2
returns-in-len2 c =
    pair_two c.args.rows.now [] c.in-len2.len_at_least c.in-len2.len_below c.field.ensures.0 c.field-in-len2.ensures.0 c.is_count.ensures c.is_count-in-len2.ensures

pub returns-in_default : goal.returns-in_default
returns-in_default c = pair_few c.args.rows.now c.in_default.len_below

pub returns-in_default-2 : goal.returns-in_default-2
returns-in_default-2 c = pair_many c.args.rows.now c.in_default.len_at_least
