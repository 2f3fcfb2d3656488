-- A block made for C: by the state that C's stands for, or refused.
-- Assumes nothing.
use mathlib.Core.Path.{◌≡◌, ap, ◌∙◌}
use mathlib.Core.Bool.{false}
use mathlib.Core.List.{List}
use Rattle.std.proofs.Common.{Option, None, Some}
use Prim.Native.Nat.{ℕ}
use Rattle.reader.specs.State.{sound}
use Rattle.reader.specs.declared.State.{State}
use Rattle.draft.specs.declared.Head.{Head}
use Rattle.writer.specs.Write.{WriteSaid, WriteOutcome, write_outcome, refuses_write}
use Rattle.cform.specs.State.{Reads}
use Rattle.cform.specs.Draft.{written_c}
use Rattle.cform.specs.declared.CWritten.{CWritten}
use Rattle.capi.specs.Calls.{making, tells_written}

module _ (call : Head → State → WriteOutcome) (buffer : List ℕ) (refuses : (h : Head) (t : State) → sound t ≡ false → call h t ≡ refuses_write 1 buffer) where
  makes_by : (h : Head) (o : Option State) (t : State) → Reads o t → making (written_c (call h t).said) (call h t).buffer ≡ tells_written (call h) buffer o
  makes_by h None t k = ap (λ (x : WriteOutcome). making (written_c x.said) x.buffer) (refuses h t k)
  makes_by h (Some u) t k = ap (λ (v : State). making (written_c (call h v).said) (call h v).buffer) k

  -- the call was made with g and t, said a and left b
  pub makes_it : (h : Head) (o : Option State) {g : Head} {t : State} {a : WriteSaid} {b : List ℕ} {x : CWritten} → g ≡ h → Reads o t
      → write_outcome a b ≡ call g t → x ≡ written_c a → making x b ≡ tells_written (call h) buffer o
  makes_it h o {g} {t} {a} {b} f k e d =
      ap (λ (w : CWritten). making w b) d
      ∙ ap (λ (y : WriteOutcome). making (written_c y.said) y.buffer) (e ∙ ap (λ (y : Head). call y t) f)
      ∙ makes_by h o t k
