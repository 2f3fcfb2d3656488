-- `lay::given` meets its contract: the low bytes of what was given are the field's.
-- Assumes nothing.
use native.Mathlib.Omega.{arith}
use Rattle.lay.proofs.Low.{given_value}
use Rattle.lay.proofs.given.Goals as goal

pub returns : goal.returns
returns c =
    let a = c.args in
    given_value a.f a.e.kind a.e.bits c.requires c.if-e-eq0.false (omega arith)
