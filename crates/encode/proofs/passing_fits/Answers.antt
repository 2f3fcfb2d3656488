-- `encode::passing_fits`: the law `passing_fits`.
-- Assumes nothing.
use Rattle.encode.proofs.Passing.{passing_fits}
use Rattle.encode.proofs.passing_fits.Goals as goal

pub returns : goal.returns
returns c = passing_fits
