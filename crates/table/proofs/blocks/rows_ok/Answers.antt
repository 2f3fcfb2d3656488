-- `table::blocks::rows_ok` meets its contract. The invariant: the pass over the rows that are left gives the pass over all of them.
-- Assumes nothing.
use Rattle.std.proofs.Common.{ap, ◌∙◌, sym, arith}
use native.Mathlib.Nat.{sub-zero}
use Rattle.table.specs.Code.{block_pass}
use Rattle.table.specs.Decode.{rows_of}
use Rattle.table.proofs.Loops as law
use Rattle.table.proofs.Passed.{file}
use Rattle.table.proofs.blocks.rows_ok.Goals as goal

pub block_count-count-requires : goal.block_count-count-requires
block_count-count-requires c = omega (arith, file c.args.t.now c.requires)

pub blocks_at-at-requires : goal.blocks_at-at-requires
blocks_at-at-requires c = omega (arith, file c.args.t.now c.requires)

pub loop-i-init : goal.loop-i-init
unfolding rows_of
loop-i-init c =
    let f = file c.args.t.now c.requires in
    (omega arith, omega arith, omega (arith, f), omega (arith, f), rw (sub-zero, c.block_count-count.ensures.0, c.field_count-fields.ensures))

pub returns-then-not-row_ok : goal.returns-then-not-row_ok
returns-then-not-row_ok c =
    law.rows_stop _ _ _ _ _ _ _ c.loop-i.invariant.4 _ c.row_at-r.ensures.0 (omega arith)
    (sym c.row_ok.ensures ∙ c.if-not-row_ok.true)

pub shaped-requires : goal.shaped-requires
shaped-requires c = let s = sym c.row_ok.ensures ∙ c.if-not-row_ok.false in omega (arith, law.step_says _ _ _ _ s)

pub returns-then-not-block_ok : goal.returns-then-not-block_ok
returns-then-not-block_ok c =
    law.rows_block _ _ _ _ _ _ _ c.loop-i.invariant.4 _ c.row_at-r.ensures.0 (omega arith) (sym c.row_ok.ensures ∙ c.if-not-row_ok.false)
    (sym (ap block_pass c.shaped.ensures) ∙ sym c.block_ok.ensures ∙ c.if-not-block_ok.true)

pub overflow_add-least : goal.overflow_add-least
overflow_add-least c = let s = sym c.row_ok.ensures ∙ c.if-not-row_ok.false in omega (arith, law.step_says _ _ _ _ s)

pub loop-i-preserved : goal.loop-i-preserved
loop-i-preserved c =
    let s = sym c.row_ok.ensures ∙ c.if-not-row_ok.false in
    let b = sym (ap block_pass c.shaped.ensures) ∙ sym c.block_ok.ensures ∙ c.if-not-block_ok.false in (
      omega arith,
      omega (arith, law.step_says _ _ _ _ s),
      omega arith,
      omega arith,
      law.rows_go _ _ _ _ _ _ _ c.loop-i.invariant.4 _ c.row_at-r.ensures.0 (omega arith) s b _ _ _ _
          (omega arith) (omega arith) (omega arith) (omega arith),
    )

pub returns : goal.returns
returns c = law.rows_done _ _ _ _ _ _ _ c.loop-i.invariant.4 (omega arith)
