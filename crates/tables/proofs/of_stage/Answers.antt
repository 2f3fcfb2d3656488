-- `tables::of_stage` meets its contract.
-- Assumes nothing.
use Rattle.std.proofs.Common.{sym, ◌∙◌}
use Rattle.tables.proofs.Saying.{stage_one, stage-table}
use Rattle.tables.proofs.of_stage.Goals as goal

pub returns-then-not-is_sound-waiting : goal.returns-then-not-is_sound-waiting
returns-then-not-is_sound-waiting c = sym (stage_one _ _ _ (rw c.is_sound.ensures at c.if-not-is_sound-waiting.true))

pub returns : goal.returns
returns c = c.version_or_four.ensures ∙ sym (stage-table _ _ _ (rw c.is_sound.ensures at c.if-not-is_sound-waiting.false))
