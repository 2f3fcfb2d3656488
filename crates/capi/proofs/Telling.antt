-- A field's answer for C: by the state that C's stands for, or refused.
-- Assumes nothing.
use mathlib.Core.Path.{◌≡◌, ap, ◌∙◌}
use mathlib.Core.Bool.{false}
use Rattle.std.proofs.Common.{Option, None, Some, Result}
use Rattle.record.specs.Answer.{FieldSaid, field_refused, answer_says, Answers}
use Rattle.refusal.specs.declared.Refusal.{Refusal}
use Rattle.value.specs.declared.Value.{Value}
use Rattle.reader.specs.State.{sound}
use Rattle.reader.specs.declared.State.{State}
use Rattle.cform.specs.State.{Reads}
use Rattle.cform.specs.Answer.{field_c}
use Rattle.cform.specs.declared.CField.{CField}
use Rattle.capi.specs.Calls.{tells_field}

module _ (call : State → FieldSaid) (refuses : (t : State) → sound t ≡ false → call t ≡ field_refused 1) where
  tells_by : (o : Option State) (t : State) → Reads o t → field_c (call t) ≡ tells_field call o
  tells_by None t k = ap field_c (refuses t k)
  tells_by (Some u) t k = ap (λ (v : State). field_c (call v)) k

  pub tells_it : (o : Option State) {t : State} {r : Result Value Refusal} {x : CField} → Reads o t → Answers r (call t) → x ≡ field_c (answer_says r) → x ≡ tells_field call o
  tells_it o {t} k h e = e ∙ ap field_c h.says ∙ tells_by o t k
