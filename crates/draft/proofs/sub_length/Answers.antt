-- `draft::sub_length` meets its contract: 0, or where the last sub-field ends.
-- Assumes nothing.
use mathlib.Core.Path.{◌∙◌}
use native.Mathlib.Omega.{arith}
use Rattle.draft.proofs.Ends.{length_none, length_some}
use Rattle.draft.proofs.sub_length.Goals as goal

pub returns-then-subs-eq0 : goal.returns-then-subs-eq0
returns-then-subs-eq0 c = (length_none c.args.row _ _ c.if-subs-eq0.true, omega arith)

pub returns : goal.returns
returns c = (c.last_end.ensures.0 ∙ length_some c.args.row _ _ c.if-subs-eq0.false, c.last_end.ensures.1)
