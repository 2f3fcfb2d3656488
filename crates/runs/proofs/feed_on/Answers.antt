-- `runs::feed_on` meets its contract: from `feed`'s numbers to the run and the report.
-- Assumes nothing.
use Rattle.std.proofs.Common.{ap, ap₂, ◌∙◌, ℕ, Option, arith}
use Rattle.feed.specs.declared.HoldNumbers.{HoldNumbers}
use Rattle.reader.specs.Counting.{with_run}
use Rattle.reader.specs.Said.{Report, took}
use Rattle.reader.specs.declared.Phase.TheVariants.{Feeding}
use Rattle.reader.proofs.Accepted.{same_outcome}
use Rattle.runs.proofs.Going.{may_feed, fed_done, fits, holds, run_is, report_is_lem}
use Rattle.runs.proofs.feed_on.Goals as goal

pub overflow_sub-room : goal.overflow_sub-room
overflow_sub-room c = let a = c.args in (may_feed a.s a.hold.now a.piece.now c.requires).0.taken

pub feed-f-requires : goal.feed-f-requires
feed-f-requires c =
    let a = c.args in
    let f = may_feed a.s a.hold.now a.piece.now c.requires in
    (f.0.ceiling.high, f.0.front, f.0.held, omega (arith, f.1))

pub went_on-next-requires : goal.went_on-next-requires
went_on-next-requires c =
    let a = c.args in
    let ok = may_feed a.s a.hold.now a.piece.now c.requires in
    fits a.s a.hold.now ok (fed_done a.s a.hold.now ok a.piece.now c.feed-f.ensures.value c.feed-f.ensures.hold_after) (omega (arith, c.feed-f.ensures.good_numbers.taken))

pub standing_block-block-requires : goal.standing_block-block-requires
standing_block-block-requires c =
    let a = c.args in
    let ok = may_feed a.s a.hold.now a.piece.now c.requires in
    holds a.s a.hold.now ok (fed_done a.s a.hold.now ok a.piece.now c.feed-f.ensures.value c.feed-f.ensures.hold_after) Feeding c.went_on-next.ensures

pub returns : goal.returns
returns c =
    let a = c.args in
    let ok = may_feed a.s a.hold.now a.piece.now c.requires in
    let d = fed_done a.s a.hold.now ok a.piece.now c.feed-f.ensures.value c.feed-f.ensures.hold_after in
    same_outcome
    (ap₂ (λ (t : ℕ) (o : Option Report). took t o) (ap (λ (n : HoldNumbers). n.taken) d.numbers)
    (report_is_lem a.s a.hold.now ok d Feeding c.went_on-next.ensures c.standing_block-block.ensures))
    (c.with_run.ensures ∙ ap (with_run a.s) (run_is a.s a.hold.now ok d Feeding c.went_on-next.ensures)) d.hold_left
