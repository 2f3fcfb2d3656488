-- `cform::replies::reply` meets its contract: by whether the phase is over 2.
-- Assumes nothing.
use Rattle.std.proofs.Common.{refl, ap, ◌∙◌}
use Rattle.cform.specs.declared.CState.{CState}
use Rattle.cform.proofs.Phases.{back_same, back_next}
use Rattle.cform.proofs.replies.reply.Goals as goal

pub returns-then-s-gt2 : goal.returns-then-s-gt2
returns-then-s-gt2 c =
    let a = c.args in
    ap (λ (x : CState). record { state = x; answer = a.a }) (back_same a.s a.next c.if-s-gt2.true)

pub returns-else-s-gt2 : goal.returns-else-s-gt2
returns-else-s-gt2 c =
    let a = c.args in
    ap (λ (x : CState). record { state = x; answer = a.a }) (c.state_c.ensures ∙ back_next a.s a.next a.s.phase refl c.if-s-gt2.false)
