-- `records::sub_bytes` meets its contract: refused, or answered by the table in force.
-- Assumes nothing.
use Rattle.record.specs.Calls.{sub_slice}
use Rattle.records.specs.Calls.{sub_bytes_of, sub_place_of}
use Rattle.records.proofs.sub_bytes.Goals as goal

pub returns-in-Ok-clause-result_value : goal.returns-in-Ok-clause-result_value
unfolding sub_bytes_of
returns-in-Ok-clause-result_value c =
    let t = c.in-Ok.ensures in
    rw (← t.refusal_value) (rw t.table_value.0 at c.sub_block.ensures.result_value)

pub returns-in-Ok-clause-ref_ptr_value : goal.returns-in-Ok-clause-ref_ptr_value
unfolding sub_place_of
returns-in-Ok-clause-ref_ptr_value c =
    let t = c.in-Ok.ensures in
    rw (← t.refusal_value) (rw t.table_value.0 at c.sub_block.ensures.ref_ptr_value)

pub returns-in-Err-clause-result_value : goal.returns-in-Err-clause-result_value
unfolding sub_bytes_of sub_slice
returns-in-Err-clause-result_value c = rw (← c.in-Err.ensures.refusal_value) c.part.ensures.result_value.0

pub returns-in-Err-clause-ref_ptr_value : goal.returns-in-Err-clause-ref_ptr_value
unfolding sub_place_of
returns-in-Err-clause-ref_ptr_value c = rw (← c.in-Err.ensures.refusal_value) c.part.ensures.ref_ptr_value
