-- `frame::at` meets its contract: a byte of either slice.
-- Assumes nothing.
use mathlib.Core.Path.{sym}
use native.Mathlib.Omega.{arith}
use lib.ListN.{get_or-append}
use Rattle.frame.proofs.Parts.{get_right}
use Rattle.frame.proofs.at.Goals as goal

pub returns-then-i-a : goal.returns-then-i-a
returns-then-i-a c =
    let a = c.args in
    sym (get_or-append a.a.now a.b.now 0 a.i (omega arith))

pub returns-else-i-a : goal.returns-else-i-a
returns-else-i-a c =
    let a = c.args in
    sym (get_right a.a.now a.b.now a.i (omega arith))
