-- `scan::scan` meets its contract: what the whole run comes to gives what feeding a byte at a time gives.
-- Assumes nothing.
use Rattle.std.proofs.Common.{sym, ap, ◌∙◌, ℕ, ◌+◌, ◌++◌, subst, length}
use Rattle.frame.specs.Judge.{judged}
use Rattle.scan.specs.Passed.{nothing_passed}
use Rattle.scan.specs.declared.Passed.{Passed}
use Rattle.scan.specs.declared.Scanned.{Scanned}
use Rattle.scan.specs.declared.Stretch.{Stretch}
use Rattle.scan.proofs.Stable.{judging}
use Rattle.scan.proofs.Scanning.{Kept, kept, scanned_by, found}
use Rattle.scan.proofs.scan.Goals as goal
use Rattle.scan.proofs.scan.Goals.{in-Block, in-Waits, in-Through}

pub overflow_sub-taken : goal.overflow_sub-taken
overflow_sub-taken c =
    let a = c.args in
    let n = length a.held.now in
    let w = a.held.now ++ a.piece.now in
    subst (Kept (0 + length w) n) (sym c.scan_both.ensures ∙ c.in-Block.is) (kept (judged a.ceiling) w nothing_passed n)

-- three numbers, as they are answered
abbrev made : ℕ × Passed × ℕ → Scanned
made p = record { taken = p.0; passed = p.1; block = p.2 }

pub returns : goal.returns
returns c =
    let a = c.args in
    let given = λ (x : Stretch). scanned_by x (length a.held.now) (length a.piece.now) in
    let whole = ap given c.scan_both.ensures ∙ sym (found (judged a.ceiling) (judging a.ceiling) a.held.now a.piece.now) in
    elim c.match-scan_both.branch [
      | in-Block w ↦ ap made w.taken-is ∙ ap given (sym w.in-Block.is) ∙ whole
      | in-Waits w ↦ ap made w.taken-is ∙ ap given (sym w.in-Waits.is) ∙ whole
      | in-Through w ↦ ap made w.taken-is ∙ ap given (sym w.in-Through.is) ∙ whole
    ]
