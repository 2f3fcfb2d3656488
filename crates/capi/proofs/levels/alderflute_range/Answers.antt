-- `capi::levels::alderflute_range` meets its contract: the reader's answer, or refusal 1.
-- Assumes nothing.
use mathlib.Core.Path.{◌≡◌}
use mathlib.Core.Bool.{false}
use Rattle.reader.specs.State.{sound}
use Rattle.reader.specs.declared.State.{State}
use Rattle.epochs.specs.Calls.{range_of}
use Rattle.cform.specs.State.{state_of}
use Rattle.record.proofs.Fields.{answers_no_nan}
use Rattle.capi.specs.Calls.{range_c}
use Rattle.capi.proofs.Refusing.{range_one}
use Rattle.capi.proofs.Telling.{tells_it}
use Rattle.capi.proofs.levels.alderflute_range.Goals as goal

pub field_c-requires : goal.field_c-requires
field_c-requires c = answers_no_nan c.range.ensures

pub returns : goal.returns
unfolding range_c
returns c =
    let a = c.args in
    tells_it (λ (t : State). range_of t a.in_force.now a.block.now a.k) (λ (t : State) (e : sound t ≡ false). range_one t e a.in_force.now a.block.now a.k) (state_of a.s) c.state_of-t.ensures c.range.ensures c.field_c.ensures
