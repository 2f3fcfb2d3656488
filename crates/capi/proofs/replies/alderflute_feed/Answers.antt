-- `capi::replies::alderflute_feed` meets its contract: the reader's outcome, or refusal 1.
-- Assumes nothing.
use mathlib.Core.Path.{◌≡◌}
use mathlib.Core.Bool.{false}
use Rattle.reader.specs.State.{sound}
use Rattle.reader.specs.declared.State.{State}
use Rattle.runs.specs.Calls.{feed_of}
use Rattle.cform.specs.State.{state_of}
use Rattle.capi.specs.Calls.{feed_c}
use Rattle.capi.proofs.Refusing.{feed-one}
use Rattle.capi.proofs.Going.{goes_on_lem}
use Rattle.capi.proofs.replies.alderflute_feed.Goals as goal

pub returns : goal.returns
unfolding feed_c
returns c =
    let a = c.args in
    goes_on_lem (λ (t : State). feed_of t a.hold.now a.piece.now) a.s a.hold.now (λ (t : State) (e : sound t ≡ false). feed-one t e a.hold.now a.piece.now) (state_of a.s) c.state_of-t.ensures c.feed-o.ensures c.fed_c.ensures c.reply.ensures
