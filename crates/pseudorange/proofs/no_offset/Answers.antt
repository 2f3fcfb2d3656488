-- `pseudorange::no_offset` meets its contract: of the remainder by 8, that -4 is 4 without its sign.
-- Assumes nothing.
use mathlib.Core.Path.{sym, ap, ◌∙◌}
use mathlib.Core.Bool.{Bool, ◌&&◌}
use lib.Dec.{eqb}
use borrow.Author.Tests.{eq-eqb, ne_eqb}
use Rattle.pseudorange.proofs.Ranges.{no_offset_is}
use Rattle.pseudorange.proofs.no_offset.Goals as goal

pub returns-then-msb-eq4 : goal.returns-then-msb-eq4
returns-then-msb-eq4 c = rw (eq-eqb _ 4 c.if-msb-eq4.true) at (no_offset_is c.args.offsets c.args.lsb)

pub returns-else-msb-eq4 : goal.returns-else-msb-eq4
returns-else-msb-eq4 c =
    let e = ne_eqb _ 4 c.if-msb-eq4.false in
    e ∙ sym (ap (λ (b : Bool). b && eqb c.args.lsb 0) e) ∙ no_offset_is c.args.offsets c.args.lsb
