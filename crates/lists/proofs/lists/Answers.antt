-- `lists::lists` meets its contract. The invariant: what is found, with what is left behind it, gives the whole; and each value before
-- what is left has taken two bytes and more.
-- Assumes nothing.
use Rattle.std.proofs.Common.{sym, ◌∙◌, ◌+◌, take, set, arith}
use Rattle.lists.proofs.Laws.{lists_stop, lists_go, lists_end, value_long}
use Rattle.lists.proofs.lists.Goals as goal

pub returns-in_err-kind-clause-bits_after : goal.returns-in_err-kind-clause-bits_after
returns-in_err-kind-clause-bits_after c =
    let l = c.loop-kind in
    rw c.from_residual.ensures (lists_stop l.left.now c.cut.result.0.now _ c.cut.ensures.words l.kinds l.bits l.count (sym c.in_err-kind.ensures) ∙ l.invariant.1)

pub bounds-kinds-count : goal.bounds-kinds-count
bounds-kinds-count c = omega (arith, value_long c.cut.result.0.now _ (sym c.in_ok-kind.ensures), c.cut.ensures.within)

pub bounds-bits-count : goal.bounds-bits-count
bounds-bits-count c = omega (arith, value_long c.cut.result.0.now _ (sym c.in_ok-kind.ensures), c.cut.ensures.within)

pub returns-in_default-clause-bits_after : goal.returns-in_default-clause-bits_after
returns-in_default-clause-bits_after c =
    let l = c.loop-kind in
    let v = c.in_ok-kind in
    let m = value_long c.cut.result.0.now _ (sym v.ensures) in
    let h = rw c.in_default.is at c.cut.ensures.words in
    lists_end (take (l.count + 1) (set l.kinds l.count v.kind)) (take (l.count + 1) (set l.bits l.count v.value))
    ∙ lists_go l.left.now c.cut.result.0.now _ h l.kinds l.bits l.count v.kind v.value (omega (arith, m, c.cut.ensures.within)) (omega (arith, m, c.cut.ensures.within)) (sym v.ensures)
    ∙ l.invariant.1

pub returns-in_default-clause-count_in_bounds : goal.returns-in_default-clause-count_in_bounds
returns-in_default-clause-count_in_bounds c = omega (arith, value_long c.cut.result.0.now _ (sym c.in_ok-kind.ensures), c.cut.ensures.within)

pub loop-kind-preserved : goal.loop-kind-preserved
loop-kind-preserved c =
    let l = c.loop-kind in
    let v = c.in_ok-kind in
    let m = value_long c.cut.result.0.now _ (sym v.ensures) in
    let h = rw c.in-Some.is at c.cut.ensures.words in
    let r = rw c.in-Some.is at c.cut.ensures.rest in (
      omega (arith, m, r),
      lists_go l.left.now c.cut.result.0.now _ h l.kinds l.bits l.count v.kind v.value (omega (arith, m, c.cut.ensures.within)) (omega (arith, m, c.cut.ensures.within)) (sym v.ensures)
          ∙ l.invariant.1,
    )
