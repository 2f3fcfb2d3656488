-- `scan::scan_both` meets its contract: a part and then the rest is the whole.
-- Assumes nothing.
use Rattle.std.proofs.Common.{sym, ap, ◌∙◌, ◌+◌, arith, subst, length}
use Rattle.frame.specs.Judge.{judged}
use Rattle.scan.specs.Passed.{nothing_passed}
use Rattle.scan.specs.Scan.{with_rest}
use Rattle.scan.proofs.Scanning.{then_part, stays, part_then, last_part, Kept, kept}
use Rattle.scan.proofs.scan_both.Goals as goal

pub scan_part-requires-in-Through : goal.scan_part-requires-in-Through
scan_part-requires-in-Through c =
    let a = c.args in
    let n = length a.held.now in
    let k = subst (Kept (0 + n) n) (sym c.scan_part.ensures ∙ c.in-Through.is) (kept (with_rest (judged a.ceiling) a.piece.now) a.held.now nothing_passed n) in
    omega (arith, k.0)

pub returns-in-Through : goal.returns-in-Through
returns-in-Through c =
    let a = c.args in
    let j = judged a.ceiling in
    c.scan_part-in-Through.ensures
    ∙ sym
    (part_then j a.piece.now a.held.now nothing_passed (length a.held.now)
    ∙ ap (then_part j a.piece.now) (sym c.scan_part.ensures ∙ c.in-Through.is)
    ∙ last_part j a.piece.now c.in-Through.before c.in-Through.mark)

pub returns-in_default : goal.returns-in_default
returns-in_default c =
    let a = c.args in
    let j = judged a.ceiling in
    sym
    (part_then j a.piece.now a.held.now nothing_passed (length a.held.now)
    ∙ ap (then_part j a.piece.now) (sym c.scan_part.ensures)
    ∙ stays j a.piece.now c.scan_part.result c.in_default.not-Through)
