-- `cform::states::state_of` meets its contract: by the phase, if the number has one.
-- Assumes nothing.
use Rattle.std.proofs.Common.{refl, sym}
use Rattle.cform.specs.State.{state_of}
use Rattle.cform.proofs.Phases.{too_many}
use Rattle.cform.proofs.states.state_of.Goals as goal

pub returns-in-Some : goal.returns-in-Some
unfolding state_of
returns-in-Some c = rw (sym c.in-Some.ensures) c.in_phase.ensures

pub returns-in-None : goal.returns-in-None
unfolding state_of
returns-in-None c = rw (sym c.in-None.ensures) (too_many _ refl)
