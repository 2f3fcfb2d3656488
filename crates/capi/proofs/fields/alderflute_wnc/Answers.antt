-- `capi::fields::alderflute_wnc` meets its contract: the reader's answer, or refusal 1.
-- Assumes nothing.
use mathlib.Core.Path.{◌≡◌}
use mathlib.Core.Bool.{false}
use Rattle.reader.specs.State.{sound}
use Rattle.reader.specs.declared.State.{State}
use Rattle.records.specs.Calls.{wnc_of}
use Rattle.cform.specs.State.{state_of}
use Rattle.record.proofs.Fields.{answers_no_nan}
use Rattle.capi.specs.Calls.{wnc_c}
use Rattle.capi.proofs.Refusing.{wnc-one}
use Rattle.capi.proofs.Telling.{tells_it}
use Rattle.capi.proofs.fields.alderflute_wnc.Goals as goal

pub field_c-requires : goal.field_c-requires
field_c-requires c = answers_no_nan c.wnc.ensures

pub returns : goal.returns
unfolding wnc_c
returns c =
    let a = c.args in
    tells_it (λ (t : State). wnc_of t a.block.now) (λ (t : State) (e : sound t ≡ false). wnc-one t e a.block.now) (state_of a.s) c.state_of-t.ensures c.wnc.ensures c.field_c.ensures
