-- `runs::finish_on` meets its contract: from `finish`'s numbers to the run, the report or the end.
-- Assumes nothing.
use Rattle.std.proofs.Common.{◌≡◌, ap, ◌∙◌, ℕ, List, Option, None, Some, arith}
use Rattle.feed.specs.declared.HoldNumbers.{HoldNumbers}
use Rattle.reader.specs.Counting.{with_run}
use Rattle.reader.specs.Code.{run_by, phase_by}
use Rattle.reader.specs.Said.{Report, Said, ended, found}
use Rattle.reader.specs.declared.Counts.{Counts}
use Rattle.reader.specs.declared.Phase.{Phase}
use Rattle.reader.specs.declared.Run.{Run}
use Rattle.reader.proofs.Accepted.{same_outcome}
use Rattle.runs.specs.Said.{ended_or_found}
use Rattle.runs.specs.Calls.{report_if, front, run_on, phase_after, finish_said, finishing_of}
use Rattle.runs.proofs.Feeding.{phase_is}
use Rattle.runs.proofs.Going.{may_finish, end_done, fits, holds, run_is, report_is_lem}
use Rattle.runs.proofs.finish_on.Goals as goal
use Rattle.runs.proofs.finish_on.Goals.{in-Some, in-None}

pub finish-f-requires : goal.finish-f-requires
finish-f-requires c =
    let a = c.args in
    let f = may_finish a.s a.hold.now c.requires in
    (f.0.front, f.0.held, omega (arith, f.1))

pub went_on-next-requires : goal.went_on-next-requires
went_on-next-requires c =
    let a = c.args in
    let ok = may_finish a.s a.hold.now c.requires in
    fits a.s a.hold.now ok (end_done a.s a.hold.now ok c.finish-f.ensures.value c.finish-f.ensures.hold_after) (omega (arith, c.finish-f.ensures.good_numbers.taken))

pub standing_block-requires : goal.standing_block-requires
standing_block-requires c =
    let a = c.args in
    let ok = may_finish a.s a.hold.now c.requires in
    holds a.s a.hold.now ok (end_done a.s a.hold.now ok c.finish-f.ensures.value c.finish-f.ensures.hold_after) _ c.went_on-next.ensures

-- what is said by the report
abbrev said_end : Option Report → Counts → Said
said_end None c = ended c
said_end (Some b) c = found b

end_is : (o : Option ℕ) (r : Run) (v : List ℕ) {b : Option Report} → b ≡ report_if o (front r) v → said_end b r.counts ≡ finish_said o r v
end_is None r v e = ap (λ (b : Option Report). said_end b r.counts) e
end_is (Some n) r v e = ap (λ (b : Option Report). said_end b r.counts) e

pub returns : goal.returns
returns c =
    let a = c.args in
    let ok = may_finish a.s a.hold.now c.requires in
    let d = end_done a.s a.hold.now ok c.finish-f.ensures.value c.finish-f.ensures.hold_after in
    let f = finishing_of a.s a.hold.now in
    let x = phase_after f.standing in
    let n = c.went_on-next.ensures ∙ ap (λ (y : Phase). run_by y a.s.run c.finish-f.result) (c.phase_after.ensures ∙ ap (λ (k : HoldNumbers). phase_by k.standing) d.numbers ∙ phase_is f.standing f.held d.whole) in
    same_outcome
    (elim c.match-standing_block.branch [
      | in-Some w ↦ ap ended_or_found w.found-is ∙ end_is f.standing (run_on x a.s.run f) f.held (report_is_lem a.s a.hold.now ok d x n w.in-Some.ensures)
      | in-None w ↦ ap ended_or_found w.found-is ∙ ap (λ (r : Run). ended r.counts) (run_is a.s a.hold.now ok d x n) ∙ end_is f.standing (run_on x a.s.run f) f.held (report_is_lem a.s a.hold.now ok d x n w.in-None.ensures)
    ])
    (c.with_run.ensures ∙ ap (with_run a.s) (run_is a.s a.hold.now ok d x n)) d.hold_left
