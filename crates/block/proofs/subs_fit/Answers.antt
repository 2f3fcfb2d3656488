-- `block::subs_fit` meets its contract: without sub-fields there is nothing to test.
-- Assumes nothing.
use Rattle.block.proofs.Blocks.{subs_none, subs_some}
use Rattle.block.proofs.subs_fit.Goals as goal

pub returns-then-row-eq0 : goal.returns-then-row-eq0
returns-then-row-eq0 c = subs_none _ c.args.row c.if-row-eq0.true

pub returns : goal.returns
returns c = subs_some _ c.args.row c.if-row-eq0.false c.from-count.ensures c.sub_span-end.ensures c.revision.ensures c.all_end-all.ensures
