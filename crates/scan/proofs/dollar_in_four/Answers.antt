-- `scan::dollar_in_four` meets its contract: where its four tests fail, each of them does.
-- Assumes nothing.
use native.Mathlib.Omega.{arith}
use Rattle.scan.proofs.Eights.{none_of_four}
use Rattle.scan.proofs.dollar_in_four.Goals as goal

pub returns : goal.returns
returns c f =
    let a = c.args in
    record { from = omega arith; within = c.requires; none = none_of_four a.s.now a.k f }
