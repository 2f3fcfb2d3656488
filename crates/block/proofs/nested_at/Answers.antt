-- `block::nested_at` meets its contract: the first level's last row.
-- Assumes nothing.
use Rattle.std.proofs.Common.{ap, ◌∙◌, arith}
use Rattle.rows.specs.declared.FieldRow.{FieldRow}
use Rattle.block.proofs.Blocks.{nested_some, nested_none}
use Rattle.block.proofs.nested_at.Goals as goal

pub returns-in-Some : goal.returns-in-Some
returns-in-Some c =
    let h = c.in-Some.ensures.lookup in
    let f = c.field.ensures in
    (ap (λ (r : FieldRow). r.offset) f.0 ∙ nested_some c.args.row _ c.saturating_sub.ensures _ h.1 h.3.0, f.1)

pub returns-in-None : goal.returns-in-None
returns-in-None c = (nested_none c.args.row _ c.saturating_sub.ensures c.in-None.ensures.lookup.3, omega arith)
