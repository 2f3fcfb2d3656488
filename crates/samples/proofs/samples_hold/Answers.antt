-- `samples::samples_hold`: as computed.
-- Assumes nothing.
use Rattle.samples.proofs.Computed.{computed}
use Rattle.samples.proofs.samples_hold.Goals as goal

pub returns : goal.returns
returns c = computed.samples
