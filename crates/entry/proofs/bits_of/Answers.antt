-- `entry::bits_of` meets its contract: what has no bits of its type has none.
-- Assumes nothing.
use mathlib.Core.Path.{sym, ◌∙◌}
use Rattle.entry.proofs.Fits.{none-written}
use Rattle.entry.proofs.bits_of.Goals as goal

pub returns-in_err-x : goal.returns-in_err-x
returns-in_err-x c = c.from_residual.ensures ∙ none-written _ _ _ c.if-e-eq0.false (sym c.bits_for.ensures ∙ c.in_err-x.was)
