-- `wire::in_range`: the law `range`. Assumes nothing.
use Rattle.wire.proofs.Laws.{range}
use Rattle.wire.proofs.in_range.Goals as goal

pub returns : goal.returns
returns c = range
