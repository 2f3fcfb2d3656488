-- `writer::put` meets its contract: each return is one law of `written_by`.
-- Assumes nothing.
use native.Mathlib.Omega.{arith}
use Rattle.writer.proofs.Told.{told_11, told_revision, told_few, told_12, told_writable, told_length}
use Rattle.writer.proofs.put.Goals as goal

pub returns-in_default : goal.returns-in_default
returns-in_default c = told_11 _ _ _ _ c.in_default.ensures

pub overflow_cast-h : goal.overflow_cast-h
overflow_cast-h c = omega (arith, told_revision 0 _ _ c.in-Some.ensures)

pub sizes-z-requires : goal.sizes-z-requires
sizes-z-requires c = told_few 0 _ _ c.in-Some.ensures

pub returns-then-not-all-out : goal.returns-then-not-all-out
returns-then-not-all-out c = told_12 _ _ _ c.in-Some.ensures c.sizes-z.ensures _ c.if-not-all-out.true

pub put_block-requires-clause-writable : goal.put_block-requires-clause-writable
put_block-requires-clause-writable c =
    let a = c.args in
    let p = c.requires in
    told_writable a.ceiling _ _ c.in-Some.ensures c.sizes-z.ensures a.out.now c.if-not-all-out.false p.0 p.1

pub returns : goal.returns
returns c =
    let a = c.args in
    told_length _ _ _ c.in-Some.ensures c.sizes-z.ensures a.out.now c.if-not-all-out.false c.put_block.ensures
