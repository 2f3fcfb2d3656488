-- `tables::open` meets its contract: refused, or the table copied and the run begun.
-- Assumes nothing.
use Rattle.std.proofs.Common.{sym, ap, ◌∙◌, Bool, cond, take, arith}
use borrow.Author.Tests.{lt-ltb, le-ltb}
use Rattle.feed.specs.Hold.{over}
use Rattle.reader.specs.Outcome.{Outcome}
use Rattle.reader.proofs.Accepted.{same_outcome}
use Rattle.tables.proofs.Accepted.{open_refused, open_done, open_passed, same_state, copied}
use Rattle.tables.proofs.open.Goals as goal
use Rattle.tables.proofs.open.Goals.{then-w-gt0, else-w-gt0}

pub copy_in-requires : goal.copy_in-requires
copy_in-requires c =
    let a = c.args in
    let p = open_passed a.s a.settings a.in_force.now a.waiting.now c.in-Ok.ensures in
    (omega (arith, p.facts.waiting, p.long_force), omega (arith, p.facts.waiting, p.long_wait))

pub returns-in-Err : goal.returns-in-Err
returns-in-Err c =
    let a = c.args in
    rw (c.refused.ensures.0, c.refused.ensures.1) (open_refused a.s a.settings a.in_force.now a.waiting.now c.in-Err.ensures)

pub returns : goal.returns
returns c =
    let a = c.args in
    let p = open_passed a.s a.settings a.in_force.now a.waiting.now c.in-Ok.ensures in
    let d = open_done a.s a.settings a.in_force.now a.waiting.now c.in-Ok.ensures in
    let q = c.open_state.ensures in
    same_outcome (c.in-Ok.ensures ∙ sym (ap (λ (x : Outcome). x.said) d))
    (same_state c.open_state.result q.0
    (q.1
    ∙ elim c.if-w-gt0.branch [
      | then-w-gt0 w ↦ w.n-is ∙ sym (ap (λ (b : Bool). cond b a.s.waiting a.s.in_force) (lt-ltb 0 a.s.waiting w.if-w-gt0.true))
      | else-w-gt0 w ↦ w.n-is ∙ sym (ap (λ (b : Bool). cond b a.s.waiting a.s.in_force) (le-ltb 0 a.s.waiting w.if-w-gt0.false))
    ]) q.2)
    (elim c.if-w-gt0.branch [
      | then-w-gt0 w ↦
          w.in_force-is ∙ w.copy_in.ensures ∙ copied a.in_force.now a.waiting.now a.s.waiting (omega (arith, p.facts.waiting, p.long_wait))
          ∙ sym (ap (λ (b : Bool). cond b (over (take a.s.waiting a.waiting.now) a.in_force.now) a.in_force.now) (lt-ltb 0 a.s.waiting w.if-w-gt0.true))
      | else-w-gt0 w ↦
          w.in_force-is
          ∙ sym (ap (λ (b : Bool). cond b (over (take a.s.waiting a.waiting.now) a.in_force.now) a.in_force.now) (le-ltb 0 a.s.waiting w.if-w-gt0.false))
    ])
    ∙ d
