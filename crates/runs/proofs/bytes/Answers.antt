-- `runs::bytes` meets its contract: the standing block's bytes, or none.
-- Assumes nothing.
use Rattle.std.proofs.Common.{refl, sym, arith}
use Rattle.runs.specs.Refusals.{bytes_refusal}
use Rattle.runs.specs.Calls.{bytes_of}
use Rattle.reader.proofs.Laws.{passes, with_hold}
use Rattle.runs.proofs.bytes.Goals as goal

pub part-requires-in-Ok : goal.part-requires-in-Ok
unfolding bytes_refusal
part-requires-in-Ok c =
    let a = c.args in
    let f = with_hold a.s a.hold.now (passes _ 1 _ (sym (c.in-Ok.ensures _ refl))).0 in
    omega (arith, f.0.front, f.0.held, f.1)

pub returns-in-Err-clause-result_value : goal.returns-in-Err-clause-result_value
unfolding bytes_of
returns-in-Err-clause-result_value c = rw (sym (c.in-Err.ensures _ refl)) c.part.ensures.result_value.0

pub returns-in-Ok-clause-result_value : goal.returns-in-Ok-clause-result_value
unfolding bytes_of
returns-in-Ok-clause-result_value c = rw (sym (c.in-Ok.ensures _ refl)) c.part-in-Ok.ensures.result_value.0
