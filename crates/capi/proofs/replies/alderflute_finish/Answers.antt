-- `capi::replies::alderflute_finish` meets its contract: the reader's outcome, or refusal 1.
-- Assumes nothing.
use mathlib.Core.Path.{◌≡◌}
use mathlib.Core.Bool.{false}
use Rattle.reader.specs.State.{sound}
use Rattle.reader.specs.declared.State.{State}
use Rattle.runs.specs.Calls.{finish_of}
use Rattle.cform.specs.State.{state_of}
use Rattle.capi.specs.Calls.{finish_c}
use Rattle.capi.proofs.Refusing.{finish-one}
use Rattle.capi.proofs.Going.{goes_on_lem}
use Rattle.capi.proofs.replies.alderflute_finish.Goals as goal

pub returns : goal.returns
unfolding finish_c
returns c =
    let a = c.args in
    goes_on_lem (λ (t : State). finish_of t a.hold.now) a.s a.hold.now (λ (t : State) (e : sound t ≡ false). finish-one t e a.hold.now) (state_of a.s) c.state_of-t.ensures c.finish-o.ensures c.finished_c.ensures c.reply.ensures
