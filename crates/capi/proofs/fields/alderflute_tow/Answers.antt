-- `capi::fields::alderflute_tow` meets its contract: the reader's answer, or refusal 1.
-- Assumes nothing.
use mathlib.Core.Path.{◌≡◌}
use mathlib.Core.Bool.{false}
use Rattle.reader.specs.State.{sound}
use Rattle.reader.specs.declared.State.{State}
use Rattle.records.specs.Calls.{tow_of}
use Rattle.cform.specs.State.{state_of}
use Rattle.record.proofs.Fields.{answers_no_nan}
use Rattle.capi.specs.Calls.{tow_c}
use Rattle.capi.proofs.Refusing.{tow_one}
use Rattle.capi.proofs.Telling.{tells_it}
use Rattle.capi.proofs.fields.alderflute_tow.Goals as goal

pub field_c-requires : goal.field_c-requires
field_c-requires c = answers_no_nan c.tow.ensures

pub returns : goal.returns
unfolding tow_c
returns c =
    let a = c.args in
    tells_it (λ (t : State). tow_of t a.block.now) (λ (t : State) (e : sound t ≡ false). tow_one t e a.block.now) (state_of a.s) c.state_of-t.ensures c.tow.ensures c.field_c.ensures
