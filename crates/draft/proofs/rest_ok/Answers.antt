-- `draft::rest_ok` meets its contract: what is left of the list gives the whole.
-- Assumes nothing.
use mathlib.Core.Path.{refl}
use native.Mathlib.Omega.{arith}
use Rattle.draft.proofs.Values.{rest_ends, rest_begins, rest_set, rest_goes}
use Rattle.draft.proofs.rest_ok.Goals as goal

pub loop-i-init : goal.loop-i-init
loop-i-init c = λ bits. record { unset = refl; subs = refl }

pub returns-in-255 : goal.returns-in-255
returns-in-255 c = rest_begins _ _ _ (omega arith) (omega arith) c.loop-i.invariant (omega arith) c.in-255.is

pub returns-in_default : goal.returns-in_default
returns-in_default c = rest_set _ _ _ (omega arith) (omega arith) c.loop-i.invariant (omega arith) (omega arith) (omega arith)

pub loop-i-preserved : goal.loop-i-preserved
loop-i-preserved c = rest_goes _ _ _ (omega arith) (omega arith) c.loop-i.invariant (omega arith) c.in-0.is

pub returns : goal.returns
returns c = rest_ends _ _ _ (omega arith) (omega arith) c.loop-i.invariant (omega arith)
