-- A call that goes on with the state: by the state that C's stands for, or refused.
-- Assumes nothing.
use mathlib.Core.Path.{◌≡◌, ap, ◌∙◌}
use mathlib.Core.Bool.{false}
use mathlib.Core.List.{List}
use Rattle.std.proofs.Common.{Option, None, Some}
use Prim.Native.Nat.{ℕ}
use Rattle.reader.specs.State.{sound}
use Rattle.reader.specs.Said.{Said, refused}
use Rattle.reader.specs.Outcome.{Outcome, outcome}
use Rattle.reader.specs.declared.State.{State}
use Rattle.cform.specs.State.{Reads, state_c, back_c}
use Rattle.cform.specs.Answer.{answer_c, reply_c}
use Rattle.capi.specs.Calls.{left, goes_on}
use Rattle.cform.specs.declared.CAnswer.{CAnswer}
use Rattle.cform.specs.declared.CState.{CState}
use Rattle.cform.specs.declared.CReply.{CReply}

module _ (call : State → Outcome) (s : CState) (lent : List ℕ) (refuses : (t : State) → sound t ≡ false → call t ≡ outcome (refused 1) t lent) where
  -- the call was made with t, left u and l, and said a
  goes_by : (o : Option State) (t u : State) (a : Said) (l : List ℕ) → Reads o t → outcome a u l ≡ call t → left (reply_c a (back_c s o u)) l ≡ goes_on call s lent o
  goes_by None t u a l k e = ap (λ (x : Outcome). left (reply_c x.said s) x.lent) (e ∙ refuses t k)
  goes_by (Some v) t u a l k e = ap (λ (x : Outcome). left (reply_c x.said (state_c x.state)) x.lent) (e ∙ ap call k)

  pub goes_on_lem : (o : Option State) {t u : State} {a : Said} {l : List ℕ} {x : CAnswer} {r : CReply} → Reads o t → outcome a u l ≡ call t → x ≡ answer_c a
      → ◌≡◌ {A = CReply} r (record { state = back_c s o u; answer = x }) → left r l ≡ goes_on call s lent o
  goes_on_lem o {t} {u} {a} {l} k e f g =
      ap (λ (r : CReply). left r l) (g ∙ ap (λ (x : CAnswer). record { state = back_c s o u; answer = x }) f) ∙ goes_by o t u a l k e
