-- `table::blocks::one_level` meets its contract: without sub-fields nothing is asked, else the two passes.
-- Assumes nothing.
use Rattle.table.proofs.Loops.{one_none, one_some}
use Rattle.table.proofs.blocks.one_level.Goals as goal

pub returns-then-s-eq0 : goal.returns-then-s-eq0
returns-then-s-eq0 c = one_none c.args.s c.if-s-eq0.true

pub returns : goal.returns
returns c = one_some c.args.s c.if-s-eq0.false c.fields_ok-subs.ensures c.pair_ok-pair.ensures
