-- `draft::sizes` meets its contract: by the two ends; 255 sub-blocks end below 2 ^ 24.
-- Assumes nothing.
use native.Mathlib.Omega.{arith}
use Rattle.draft.proofs.Ends.{subs_bound, sizes_are}
use Rattle.draft.proofs.sizes.Goals as goal

pub overflow_mul-end : goal.overflow_mul-end
overflow_mul-end c =
    let s = c.sub_length-sub.ensures in
    omega (arith, subs_bound c.args.subs c.sub_length-sub.result (omega arith) s.1)

pub overflow_add-end : goal.overflow_add-end
overflow_add-end c =
    let s = c.sub_length-sub.ensures in
    omega (arith, c.last_end-body.ensures.1, subs_bound c.args.subs c.sub_length-sub.result (omega arith) s.1)

pub overflow_add-result : goal.overflow_add-result
overflow_add-result c =
    let s = c.sub_length-sub.ensures in
    omega (arith, c.last_end-body.ensures.1, subs_bound c.args.subs c.sub_length-sub.result (omega arith) s.1)

pub overflow_mul-result : goal.overflow_mul-result
overflow_mul-result c =
    let s = c.sub_length-sub.ensures in
    omega (arith, c.last_end-body.ensures.1, subs_bound c.args.subs c.sub_length-sub.result (omega arith) s.1)

pub returns : goal.returns
returns c = sizes_are c.args.row _ _ c.sub_length-sub.ensures.0 c.last_end-body.ensures.0
