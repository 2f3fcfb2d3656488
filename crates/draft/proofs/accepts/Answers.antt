-- `draft::accepts` meets its contract: each return is one law of `draft_ok`.
-- Assumes nothing.
use mathlib.Core.Path.{sym, ◌∙◌}
use native.Mathlib.Omega.{arith}
use Rattle.draft.proofs.Drafts.{draft_late, draft_unstamped, draft_listed}
use Rattle.draft.proofs.accepts.Goals as goal

pub returns-then-h-gt7 : goal.returns-then-h-gt7
returns-then-h-gt7 c = draft_late _ _ _ _ (omega arith)

pub returns-then-not-stamps_ok : goal.returns-then-not-stamps_ok
returns-then-not-stamps_ok c = draft_unstamped _ _ _ _ (omega arith) (sym c.stamps_ok.ensures ∙ c.if-not-stamps_ok.true)

pub returns : goal.returns
returns c = draft_listed _ _ _ _ (omega arith) (sym c.stamps_ok.ensures ∙ c.if-not-stamps_ok.false) c.lists_ok.ensures
