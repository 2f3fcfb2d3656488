-- `capi::fields::alderflute_sub` meets its contract: the reader's answer, or refusal 1.
-- Assumes nothing.
use mathlib.Core.Path.{◌≡◌}
use mathlib.Core.Bool.{false}
use Rattle.reader.specs.State.{sound}
use Rattle.reader.specs.declared.State.{State}
use Rattle.records.specs.Calls.{sub_of}
use Rattle.cform.specs.State.{state_of}
use Rattle.record.proofs.Fields.{answers_no_nan}
use Rattle.capi.specs.Calls.{sub_c}
use Rattle.capi.proofs.Refusing.{sub_one}
use Rattle.capi.proofs.Telling.{tells_it}
use Rattle.capi.proofs.fields.alderflute_sub.Goals as goal

pub field_c-requires : goal.field_c-requires
field_c-requires c = answers_no_nan c.sub.ensures

pub returns : goal.returns
unfolding sub_c
returns c =
    let a = c.args in
    tells_it (λ (t : State). sub_of t a.in_force.now a.block.now a.k a.j) (λ (t : State) (e : sound t ≡ false). sub_one t e a.in_force.now a.block.now a.k a.j) (state_of a.s) c.state_of-t.ensures c.sub.ensures c.field_c.ensures
