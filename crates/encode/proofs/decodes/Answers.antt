-- `encode::decodes`: the law `decodes`.
-- Assumes nothing.
use Rattle.encode.proofs.Bytes.{decodes}
use Rattle.encode.proofs.decodes.Goals as goal

pub returns : goal.returns
returns c = decodes
