-- `writer::write` meets its contract: no row has a number that is too high, and else the row that is found decides, if it is of one level.
-- Assumes nothing.
use native.Mathlib.Omega.{arith}
use Rattle.writer.proofs.Told.{told_high, told_6, told_two, told_found}
use Rattle.writer.proofs.write.Goals as goal

pub returns-in_default : goal.returns-in_default
returns-in_default c = told_high _ _ _ _ c.requires (omega (arith, c.in_default.ensures))

pub returns-in_default-find : goal.returns-in_default-find
returns-in_default-find c = told_6 _ _ _ _ c.in-Ok.ensures.1 c.in_default-find.ensures

pub returns-then-row-ne0 : goal.returns-then-row-ne0
returns-then-row-ne0 c = told_two _ _ _ _ c.in-Ok.ensures.1 c.in-Some.ensures (λ z. omega (arith, c.if-row-ne0.true))

pub returns : goal.returns
returns c = told_found _ _ _ _ c.in-Ok.ensures.1 c.in-Some.ensures c.if-row-ne0.false c.put.ensures
