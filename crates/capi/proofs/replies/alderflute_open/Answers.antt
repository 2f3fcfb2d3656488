-- `capi::replies::alderflute_open` meets its contract: the reader's outcome, or refusal 1.
-- Assumes nothing.
use mathlib.Core.Path.{◌≡◌, ap, ◌∙◌}
use mathlib.Core.Bool.{false}
use Rattle.reader.specs.State.{sound}
use Rattle.reader.specs.declared.Settings.{Settings}
use Rattle.reader.specs.declared.State.{State}
use Rattle.tables.specs.Calls.{open_of}
use Rattle.cform.specs.State.{settings_back, state_of}
use Rattle.capi.specs.Calls.{open_c}
use Rattle.capi.proofs.Refusing.{open_one}
use Rattle.capi.proofs.Going.{goes_on_lem}
use Rattle.capi.proofs.replies.alderflute_open.Goals as goal

pub returns : goal.returns
unfolding open_c
returns c =
    let a = c.args in
    let x = settings_back a.settings in
    goes_on_lem (λ (t : State). open_of t x a.in_force.now a.waiting.now) a.s a.in_force.now (λ (t : State) (e : sound t ≡ false). open_one t e x a.in_force.now a.waiting.now) (state_of a.s) c.state_of-t.ensures (c.open-o.ensures ∙ ap (λ (y : Settings). open_of c.state_of-t.result y a.in_force.now a.waiting.now) c.settings_back-x.ensures) c.version_c.ensures c.reply.ensures
