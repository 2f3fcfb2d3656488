-- `record::sub_block` meets its contract: the part that stands at its place.
-- Assumes nothing.
use mathlib.Core.Path.{ap, ◌∙◌}
use Rattle.record.specs.Calls.{sub_slice}
use Rattle.record.proofs.Parts.{part_at}
use Rattle.record.proofs.sub_block.Goals as goal

pub returns-clause-result_value : goal.returns-clause-result_value
returns-clause-result_value c =
    c.part.ensures.result_value.0 ∙ ap (sub_slice _) (c.unwrap_or-place.ensures ∙ c.sub_place.ensures.span_value) ∙ part_at _ _ _
