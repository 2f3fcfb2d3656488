-- `reader::refusal_keeps`: the law `refusal_keeps`.
-- Assumes nothing.
use Rattle.reader.proofs.Accepted.{refusal_keeps}
use Rattle.reader.proofs.refusal_keeps.Goals as goal

pub returns : goal.returns
returns c = refusal_keeps
