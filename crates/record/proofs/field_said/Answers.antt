-- `record::field_said` meets its contract: carried or not.
-- Assumes nothing.
use native.Mathlib.Omega.{arith}
use Rattle.record.proofs.Fields.{not_carried, carried_says}
use Rattle.record.proofs.field_said.Goals as goal

pub returns-then-revision-f : goal.returns-then-revision-f
returns-then-revision-f c = not_carried _ _ _ (omega arith)

pub returns : goal.returns
returns c = carried_says _ _ _ (omega arith) c.read.ensures
