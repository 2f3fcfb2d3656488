-- `wire::u4` meets its contract: the library's number of four bytes is F1's.
-- Assumes nothing.
use Rattle.wire.proofs.Laws as little
use Rattle.wire.proofs.u4.Goals as goal

pub returns : goal.returns
returns c = rw (c.from_le_bytes.ensures, c.bytes.ensures) (little.u4 _ _)
