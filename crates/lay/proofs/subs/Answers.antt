-- `lay::subs` meets its contract. The invariant: what is left of the sub-blocks gives the whole.
-- Assumes nothing.
use mathlib.Core.Path.{ap}
use Prim.Native.Nat.{◌+◌}
use native.Mathlib.Nat.{add-zero}
use native.Mathlib.Omega.{arith}
use lib.Seq.{length-sets}
use Rattle.entry.proofs.Places.{subs_end}
use Rattle.draft.proofs.Walks.{subs_from_lem}
use Rattle.lay.proofs.Laying.{length_sub, every_one}
use Rattle.lay.proofs.Filling.{filling_all, filling_end, filling_more, next_fits}
use Rattle.lay.proofs.subs.Goals as goal

pub loop-next-init : goal.loop-next-init
loop-next-init c = (c.requires.count_bound.0, c.requires.count_bound.1, filling_all _ _ _ _ _ c.requires.count_in_bounds, c.requires.count_value.1)

pub fields-l-requires : goal.fields-l-requires
fields-l-requires c =
    let a = c.args in
    let l = c.loop-next in
    let e = subs_from_lem a.kinds.now a.bits.now l.next (omega arith) l.invariant.1 in
    record { count_bound = omega arith; count_value = (c.requires.count_value.0, (every_one _ _ e l.invariant.3).0); count_in_bounds = next_fits _ _ l.invariant.2 e }

pub overflow_add-to : goal.overflow_add-to
overflow_add-to c =
    let a = c.args in
    let l = c.loop-next in
    let e = subs_from_lem a.kinds.now a.bits.now l.next (omega arith) l.invariant.1 in
    omega (arith, next_fits _ _ l.invariant.2 e, c.fields-l.ensures.end_value, simp length-sets at l.invariant.2.long)

pub loop-next-smaller : goal.loop-next-smaller
loop-next-smaller c = omega (arith, c.fields-l.ensures.list_left.onward)

pub loop-next-preserved : goal.loop-next-preserved
loop-next-preserved c =
    let a = c.args in
    let l = c.loop-next in
    let q = c.fields-l.ensures in
    let e = subs_from_lem a.kinds.now a.bits.now l.next (omega arith) l.invariant.1 in (
      q.list_left.within,
      q.list_left.stops,
      filling_more _ _ l.invariant.2 e (length_sub a.revision _ _ c.requires.count_value.0) q.list_left.subs (rw add-zero at q.out_after)
          (ap (λ n. l.to + n) q.end_value),
      rw q.list_left.subs (every_one _ _ e l.invariant.3).1,
    )

pub shape_of-out : goal.shape_of-out
shape_of-out c = simp length-sets at c.loop-next.invariant.2.long

pub returns : goal.returns
returns c =
    let a = c.args in
    let l = c.loop-next in
    filling_end _ _ l.invariant.2 (subs_end a.kinds.now a.bits.now l.next (omega arith))
