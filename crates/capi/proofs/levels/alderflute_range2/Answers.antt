-- `capi::levels::alderflute_range2` meets its contract: the reader's answer, or refusal 1.
-- Assumes nothing.
use mathlib.Core.Path.{◌≡◌}
use mathlib.Core.Bool.{false}
use Rattle.reader.specs.State.{sound}
use Rattle.reader.specs.declared.State.{State}
use Rattle.epochs.specs.Calls.{range2_of}
use Rattle.cform.specs.State.{state_of}
use Rattle.record.proofs.Fields.{answers_no_nan}
use Rattle.capi.specs.Calls.{range2_c}
use Rattle.capi.proofs.Refusing.{range2_one}
use Rattle.capi.proofs.Telling.{tells_it}
use Rattle.capi.proofs.levels.alderflute_range2.Goals as goal

pub field_c-requires : goal.field_c-requires
field_c-requires c = answers_no_nan c.range2.ensures

pub returns : goal.returns
unfolding range2_c
returns c =
    let a = c.args in
    tells_it (λ (t : State). range2_of t a.in_force.now a.block.now a.k a.m) (λ (t : State) (e : sound t ≡ false). range2_one t e a.in_force.now a.block.now a.k a.m) (state_of a.s) c.state_of-t.ensures c.range2.ensures c.field_c.ensures
