-- `capi::replies::alderflute_withdraw` meets its contract: the reader's outcome, or refusal 1.
-- Assumes nothing.
use mathlib.Core.Path.{◌≡◌}
use mathlib.Core.Bool.{false}
use mathlib.Core.List.{[]}
use Rattle.reader.specs.State.{sound}
use Rattle.reader.specs.declared.State.{State}
use Rattle.tables.specs.Calls.{withdraw_of}
use Rattle.cform.specs.State.{state_of}
use Rattle.capi.specs.Calls.{withdraw_c}
use Rattle.capi.proofs.Refusing.{withdraw-one}
use Rattle.capi.proofs.Going.{goes_on_lem}
use Rattle.capi.proofs.replies.alderflute_withdraw.Goals as goal

pub returns : goal.returns
unfolding withdraw_c
returns c =
    let a = c.args in
    goes_on_lem (λ (t : State). withdraw_of t) a.s [] (λ (t : State) (e : sound t ≡ false). withdraw-one t e) (state_of a.s) c.state_of-t.ensures c.withdraw-o.ensures c.withdrawn_c.ensures c.reply.ensures
