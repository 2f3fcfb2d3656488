-- `runs::bytes_refused` meets its contract: the refusals ask for the hold's length alone.
-- Assumes nothing.
use mathlib.Core.Path.{refl}
use Rattle.runs.proofs.bytes_refused.Goals as goal

pub returns : goal.returns
returns c = c.of_bytes.ensures _ refl
