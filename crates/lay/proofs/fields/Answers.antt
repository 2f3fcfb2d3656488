-- `lay::fields` meets its contract. The invariant: what is left of rows and values gives the whole.
-- Assumes nothing.
use mathlib.Core.List.{[]}
use mathlib.Core.Path.{refl, ◌∙◌}
use native.Mathlib.Omega.{arith}
use lib.Seq.{length-sets}
use Rattle.table.proofs.FieldRows.{none_left}
use Rattle.lay.proofs.Laying.{laying_all, laying_end, laying_skip, laying_put, put_from, put_to, put_allowed, rows_left}
use Rattle.lay.proofs.fields.Goals as goal
use Rattle.lay.proofs.fields.Goals.{then-f-revision, else-f-revision}

pub loop-row-init : goal.loop-row-init
loop-row-init c =
    let a = c.args in
    (omega arith, omega arith, refl, laying_all _ a.base _ _ _ _ c.requires.count_value.0 c.requires.count_value.1)

pub field-end-requires : goal.field-end-requires
field-end-requires c =
    let l = c.loop-row in
    let e = rows_left c.args.rows.now l.row-index [] c.field-f.ensures.0 (omega arith) in
    let to = put_to l.invariant.3 e c.if-f-revision.true in
    let n = simp length-sets at l.invariant.3.long in
    (put_from l.invariant.3 e, omega (arith, to, n), put_allowed l.invariant.3 e c.if-f-revision.true c.take-t.ensures.is)

pub loop-row-preserved : goal.loop-row-preserved
loop-row-preserved c =
    let l = c.loop-row in
    let t = c.take-t.ensures in
    let e = rows_left c.args.rows.now l.row-index [] c.field-f.ensures.0 (omega arith) in (
      omega arith,
      t.within,
      t.subs ∙ l.invariant.2,
      elim c.if-f-revision.branch [
        | then-f-revision w ↦ laying_put l.invariant.3 e t.rest w.if-f-revision.true t.is (w.out-is ∙ w.field-end.ensures.out_after) (w.end-is ∙ w.field-end.ensures.value)
        | else-f-revision w ↦ laying_skip l.invariant.3 e t.rest (omega arith) w.out-is w.end-is
      ],
    )

pub shape_of-out : goal.shape_of-out
shape_of-out c = simp length-sets at c.loop-row.invariant.3.long

pub returns : goal.returns
returns c =
    let a = c.args in
    let l = c.loop-row in
    let end = laying_end l.invariant.3 (none_left a.rows.now l.row-index (omega arith)) in
    let q = c.list_end.ensures a.bits.now in
    record { list_left = record { onward = omega arith; within = q.within; stops = q.stops; subs = q.subs ∙ l.invariant.2 }; end_value = end.0; out_after = end.1 }
