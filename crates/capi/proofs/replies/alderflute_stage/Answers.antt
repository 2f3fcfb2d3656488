-- `capi::replies::alderflute_stage` meets its contract: the reader's outcome, or refusal 1.
-- Assumes nothing.
use mathlib.Core.Path.{◌≡◌}
use mathlib.Core.Bool.{false}
use Rattle.reader.specs.State.{sound}
use Rattle.reader.specs.declared.State.{State}
use Rattle.tables.specs.Calls.{stage_of}
use Rattle.cform.specs.State.{state_of}
use Rattle.capi.specs.Calls.{stage_c}
use Rattle.capi.proofs.Refusing.{stage_one}
use Rattle.capi.proofs.Going.{goes_on_lem}
use Rattle.capi.proofs.replies.alderflute_stage.Goals as goal

pub returns : goal.returns
unfolding stage_c
returns c =
    let a = c.args in
    goes_on_lem (λ (t : State). stage_of t a.waiting.now a.table.now) a.s a.waiting.now (λ (t : State) (e : sound t ≡ false). stage_one t e a.waiting.now a.table.now) (state_of a.s) c.state_of-t.ensures c.stage-o.ensures c.version_c.ensures c.reply.ensures
