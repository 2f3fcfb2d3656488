-- `table::blocks::block_ok` meets its contract: the body, and the sub-fields of one level or of two.
-- Assumes nothing.
use Rattle.table.proofs.Loops.{block_one, block_two}
use Rattle.table.proofs.blocks.block_ok.Goals as goal

pub returns-then-s-eq0 : goal.returns-then-s-eq0
returns-then-s-eq0 c = block_one c.args.s c.fields_ok-body.ensures c.if-s-eq0.true c.one_level.ensures

pub returns : goal.returns
returns c = block_two c.args.s c.fields_ok-body.ensures c.if-s-eq0.false c.two_levels.ensures
