-- `runs::refusals::of_finish` meets its contract.
-- Assumes nothing.
use Rattle.std.proofs.Common.{sym, ◌∙◌}
use Rattle.runs.specs.Refusals.{finish_refusal}
use Rattle.runs.proofs.refusals.of_finish.Goals as goal

pub returns-then-not-may_call : goal.returns-then-not-may_call
unfolding finish_refusal
returns-then-not-may_call c v e = simp (e, sym c.may_call.ensures ∙ c.if-not-may_call.true)

pub returns-then-is_closed : goal.returns-then-is_closed
unfolding finish_refusal
returns-then-is_closed c v e =
    simp (e, sym c.may_call.ensures ∙ c.if-not-may_call.false, sym c.is_closed.ensures ∙ c.if-is_closed.true)

pub returns : goal.returns
unfolding finish_refusal
returns c v e = simp (e, sym c.may_call.ensures ∙ c.if-not-may_call.false, sym c.is_closed.ensures ∙ c.if-is_closed.false)
