-- `encode::encodes`: the law `encodes`.
-- Assumes nothing.
use Rattle.encode.proofs.Encoded.{encodes}
use Rattle.encode.proofs.encodes.Goals as goal

pub returns : goal.returns
returns c = encodes
