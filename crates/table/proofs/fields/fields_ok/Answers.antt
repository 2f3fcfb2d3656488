-- `table::fields::fields_ok` meets its contract. The invariant: the pass over the rows that are left gives the pass over all of them.
-- Assumes nothing.
use Rattle.std.proofs.Common.{◌+◌, sym, ◌∙◌, [], arith}
use Rattle.table.proofs.Loops.{fields_done, fields_stop, fields_go}
use Rattle.table.proofs.fields.fields_ok.Goals as goal

pub returns-then-not-field_ok : goal.returns-then-not-field_ok
returns-then-not-field_ok c =
    let l = c.loop-row in
    fields_stop c.args.rows.now l.row-index _ _ _ _ l.invariant _ [] c.field-f.ensures.0 (omega arith) (sym c.field_ok.ensures ∙ c.if-not-field_ok.true)

pub loop-row-preserved : goal.loop-row-preserved
loop-row-preserved c =
    let l = c.loop-row in
    let f = c.field-f.result in
    fields_go c.args.rows.now l.row-index _ _ _ _ l.invariant f [] c.field-f.ensures.0 (omega arith) (sym c.field_ok.ensures ∙ c.if-not-field_ok.false)
    (f.offset + c.size.result) (omega arith)

pub returns : goal.returns
returns c = fields_done c.args.rows.now c.loop-row.row-index _ _ _ _ c.loop-row.invariant (omega arith)
