-- `framing::block_decides_no_more`: the law `block_decides_no_more`.
-- Assumes nothing.
use Rattle.framing.proofs.Calls.{block_decides_no_more}
use Rattle.framing.proofs.block_decides_no_more.Goals as goal

pub returns : goal.returns
returns c = block_decides_no_more
