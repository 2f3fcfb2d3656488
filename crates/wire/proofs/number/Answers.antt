-- `wire::number` meets its contract: a mask of thirteen ones is the remainder by 8,192.
-- Assumes nothing.
use lib.Bits.{and_mask}
use Rattle.wire.proofs.number.Goals as goal

pub returns : goal.returns
returns c = and_mask c.args.id 13
