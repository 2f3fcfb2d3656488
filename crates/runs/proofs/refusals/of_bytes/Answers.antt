-- `runs::refusals::of_bytes` meets its contract.
-- Assumes nothing.
use Rattle.std.proofs.Common.{sym, ◌∙◌}
use Rattle.runs.specs.Refusals.{bytes_refusal}
use Rattle.runs.proofs.refusals.of_bytes.Goals as goal

pub returns-then-may_call : goal.returns-then-may_call
unfolding bytes_refusal
returns-then-may_call c v e = simp (e, sym c.may_call.ensures ∙ c.if-may_call.true)

pub returns-else-may_call : goal.returns-else-may_call
unfolding bytes_refusal
returns-else-may_call c v e = simp (e, sym c.may_call.ensures ∙ c.if-may_call.false)
