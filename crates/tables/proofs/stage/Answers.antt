-- `tables::stage` meets its contract: refused, or the table copied to the waiting place.
-- Assumes nothing.
use Rattle.std.proofs.Common.{refl, sym, ap, ◌∙◌, List, ℕ, length, arith}
use lib.Seq.{take-length}
use Rattle.feed.specs.Hold.{over}
use Rattle.reader.specs.Outcome.{Outcome}
use Rattle.reader.proofs.Accepted.{same_outcome}
use Rattle.tables.proofs.Accepted.{stage_refused, stage_done, stage_passed, copied}
use Rattle.tables.proofs.stage.Goals as goal

pub copy_in-requires : goal.copy_in-requires
copy_in-requires c =
    let a = c.args in
    let p = stage_passed a.s a.waiting.now a.t.now c.in-Ok.ensures in
    (omega (arith, p.0, p.1), omega arith)

pub returns-in-Err : goal.returns-in-Err
returns-in-Err c =
    let a = c.args in
    rw (c.refused.ensures.0, c.refused.ensures.1) (stage_refused a.s a.waiting.now a.t.now c.in-Err.ensures)

pub returns-in-Ok : goal.returns-in-Ok
returns-in-Ok c =
    let a = c.args in
    let d = stage_done a.s a.waiting.now a.t.now c.in-Ok.ensures in
    same_outcome (c.in-Ok.ensures ∙ sym (ap (λ (x : Outcome). x.said) d)) refl
    (c.copy_in.ensures ∙ copied a.waiting.now a.t.now (length a.t.now) (omega arith)
    ∙ ap (λ (x : List ℕ). over x a.waiting.now) (take-length a.t.now))
    ∙ d
