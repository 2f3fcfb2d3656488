-- `value::bits_at` meets its contract: the size is 1, 2, 4 or 8, or there is no such type.
-- Assumes nothing.
use mathlib.Core.Path.{refl, ◌∙◌}
use native.Mathlib.Omega.{arith}
use Rattle.wire.specs.Little.{little_at}
use Rattle.value.proofs.Types.{no_size}
use Rattle.value.proofs.bits_at.Goals as goal

pub returns-in_default : goal.returns-in_default
unfolding little_at
returns-in_default c = let r = c.in_default.in_default-own.rest in let s = c.size.ensures.0 in let e = no_size c.args.kind (λ h. r.0.0.0.1 (s ∙ h)) (λ h. r.0.0.1 (s ∙ h)) (λ h. r.0.1 (s ∙ h)) (λ h. r.1 (s ∙ h)) in rw e (refl, omega arith)
