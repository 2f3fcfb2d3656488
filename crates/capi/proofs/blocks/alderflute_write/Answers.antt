-- `capi::blocks::alderflute_write` meets its contract: the reader's outcome, or refusal 1.
-- Assumes nothing.
use mathlib.Core.Path.{◌≡◌}
use mathlib.Core.Bool.{false}
use Rattle.reader.specs.State.{sound}
use Rattle.reader.specs.declared.State.{State}
use Rattle.draft.specs.declared.Head.{Head}
use Rattle.draft.specs.Draft.{draft_of}
use Rattle.writes.specs.Calls.{write_of}
use Rattle.cform.specs.State.{state_of}
use Rattle.cform.specs.Draft.{head_of}
use Rattle.capi.specs.Calls.{write_c}
use Rattle.capi.proofs.Refusing.{write-one}
use Rattle.capi.proofs.Making.{makes_it}
use Rattle.capi.proofs.blocks.alderflute_write.Goals as goal

pub returns : goal.returns
unfolding write_c
returns c =
    let a = c.args in
    makes_it (λ (x : Head) (t : State). write_of t a.in_force.now (draft_of x a.kinds.now a.bits.now) a.out.now) a.out.now
    (λ (x : Head) (t : State) (e : sound t ≡ false). write-one t e a.in_force.now (draft_of x a.kinds.now a.bits.now) a.out.now)
    (head_of a.number a.revision a.tow a.wnc) (state_of a.s)
    c.head_of-h.ensures c.state_of-t.ensures c.write.ensures c.written_c.ensures
