-- `record::stamped` meets its contract: each return is one law of `stamp`.
-- Assumes nothing.
use mathlib.Core.Path.{sym, ◌∙◌}
use native.Mathlib.Omega.{arith}
use Rattle.record.proofs.Fields.{stamp_10, stamp_7, stamp_says}
use Rattle.record.proofs.stamped.Goals as goal

pub returns-then-not-is_frame : goal.returns-then-not-is_frame
returns-then-not-is_frame c = stamp_10 _ _ (sym c.is_frame.ensures ∙ c.if-not-is_frame.true)

pub returns-then-block-lt14 : goal.returns-then-block-lt14
returns-then-block-lt14 c = stamp_7 _ _ (sym c.is_frame.ensures ∙ c.if-not-is_frame.false) (omega arith)

pub returns : goal.returns
returns c = stamp_says _ _ (sym c.is_frame.ensures ∙ c.if-not-is_frame.false) (omega arith) c.read.ensures
