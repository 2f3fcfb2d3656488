-- `draft::last_end` meets its contract. The invariant: none of the rows behind is carried, so those before give the whole.
-- Assumes nothing.
use mathlib.Core.Path.{ap, sym, ◌∙◌}
use mathlib.Core.List.{List, []}
use Prim.Native.Nat.{ℕ, ◌+◌}
use native.Mathlib.Omega.{arith}
use borrow.Author.Tests.{le-leb, lt-leb}
use Rattle.std.proofs.Math.Seq.{take-length}
use Rattle.table.specs.Shape.{fields_of}
use Rattle.draft.specs.Draft.{last_end}
use Rattle.draft.proofs.Ends.{ends_none, ends_at, ends_before}
use Rattle.draft.proofs.last_end.Goals as goal

pub loop-i-init : goal.loop-i-init
loop-i-init c = ap (λ (rows : List (List ℕ)). last_end c.args.revision c.args.from (fields_of rows)) (sym (take-length c.args.fields.now))

pub returns-then-f-revision : goal.returns-then-f-revision
returns-then-f-revision c =
    let l = c.loop-i in
    let a = c.args in
    let f = c.field-f.result in
    let z = c.size.ensures in (
      ap (λ (n : ℕ). f.offset + n) z.0
          ∙ ends_at a.fields.now _ _ l.i _ l.invariant _ (omega arith) f [] c.field-f.ensures.0 (omega arith) (le-leb f.first a.revision (omega arith)),
      omega (arith, c.field-f.ensures.1, z.1),
    )

pub loop-i-preserved : goal.loop-i-preserved
loop-i-preserved c =
    let l = c.loop-i in
    let a = c.args in
    let f = c.field-f.result in
    ends_before a.fields.now _ _ l.i _ l.invariant _ (omega arith) f [] c.field-f.ensures.0 (omega arith) (lt-leb f.first a.revision (omega arith))

pub returns : goal.returns
returns c =
    let l = c.loop-i in
    (ends_none c.args.fields.now _ _ l.i _ l.invariant (omega arith), omega arith)
