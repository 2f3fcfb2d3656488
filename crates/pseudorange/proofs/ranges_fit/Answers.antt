-- `pseudorange::ranges_fit`: V12's sum, case by case.
-- Assumes nothing.
use Rattle.pseudorange.proofs.Ranges.{fit}
use Rattle.pseudorange.proofs.ranges_fit.Goals as goal

pub returns : goal.returns
returns c = fit
