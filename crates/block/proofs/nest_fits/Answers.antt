-- `block::nest_fits` meets its contract: the walk, and the fields of each level.
-- Assumes nothing.
use Rattle.std.proofs.Common.{ap, ◌∙◌, List}
use Rattle.rows.specs.declared.FieldRow.{FieldRow}
use Rattle.table.specs.Lists.{every}
use Rattle.block.specs.Block.{ends_by}
use Rattle.block.proofs.Blocks.{nests_by}
use Rattle.block.proofs.nest_fits.Goals as goal

pub returns : goal.returns
returns c =
    let by = λ (n : _) (fs : List FieldRow). every (ends_by c.revision-rev.result n) fs in
    nests_by _ c.args.row c.requires.end_value.0 c.requires.end_value.1 c.byte_or_0-empty.ensures.0 c.revision-rev.ensures
    c.byte_or_0.ensures.0 c.byte_or_0-2.ensures.0 (c.all_end-first.ensures ∙ ap (by c.byte_or_0.result) c.first_rows.ensures) (c.all_end-second.ensures ∙ ap (by c.byte_or_0-2.result) c.second_rows.ensures)
