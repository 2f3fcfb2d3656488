-- `value::read` meets its contract: marked or not.
-- Assumes nothing.
use mathlib.Core.Path.{sym, ◌∙◌}
use Rattle.value.proofs.Types.{marked, not_marked}
use Rattle.value.proofs.read.Goals as goal

pub returns-then-is_do_not_use : goal.returns-then-is_do_not_use
returns-then-is_do_not_use c = marked _ _ c.bits_at-x.ensures.0 (sym c.is_do_not_use.ensures ∙ c.if-is_do_not_use.true)

pub returns : goal.returns
returns c = not_marked _ _ c.bits_at-x.ensures.0 (sym c.is_do_not_use.ensures ∙ c.if-is_do_not_use.false) c.read_as.ensures
