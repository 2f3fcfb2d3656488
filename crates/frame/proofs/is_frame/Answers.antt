-- `frame::is_frame` meets its contract: a frame is judged at the front exactly where one stands.
-- Assumes nothing.
use Rattle.std.proofs.Common.{◌≡◌, refl, sym, ap, ◌∙◌, ℕ, List, Bool, false, ◌&&◌, length}
use mathlib.Core.List.{append-nil}
use lib.Dec.{eqb}
use Rattle.frame.specs.Frame.{greatest_ceiling, length_at, frame_at, whole_frame}
use Rattle.frame.specs.Judge.{judged}
use Rattle.frame.specs.declared.Verdict.{Verdict}
use Rattle.frame.specs.declared.Verdict.TheVariants.{NoFrame, Frame, Undecided}
use Rattle.frame.proofs.Standing.{front_judged, judged_front}
use Rattle.wire.proofs.Tests.{bool?}
use Rattle.frame.proofs.is_frame.Goals as goal

module _ (s : List ℕ) where
  one : (n : ℕ) → judged greatest_ceiling s ≡ Frame n → eqb n (length s) ≡ whole_frame s
  unfolding whole_frame
  one n e =
      let f = judged_front greatest_ceiling s n e in
      ap (λ (k : ℕ). eqb k (length s)) f.1 ∙ ap (λ (b : Bool). b && eqb (length_at s 0) (length s)) (sym f.0)

  none : (x : Verdict) → judged greatest_ceiling s ≡ x → (x ≡ Frame (length_at s 0) → ⊥) → false ≡ whole_frame s
  unfolding whole_frame
  none x e n =
      bool? (frame_at greatest_ceiling s 0) (λ f. absurd (n (sym e ∙ front_judged greatest_ceiling s f)))
      (λ f. ap (λ (b : Bool). b && eqb (length_at s 0) (length s)) (sym f))

by : (c : goal.After-eq) (x : Verdict) → judged greatest_ceiling c.args.s.now ≡ x → c.judge.result ≡ x → c.eq.result ≡ whole_frame c.args.s.now
by c (NoFrame r) e f = (rw f at c.eq.ensures) ∙ none c.args.s.now (NoFrame r) e (λ g. cc)
by c (Frame n) e f = (rw f at c.eq.ensures) ∙ one c.args.s.now n e
by c Undecided e f = (rw f at c.eq.ensures) ∙ none c.args.s.now Undecided e (λ g. cc)

pub returns : goal.returns
returns c = by c c.judge.result (sym (c.judge.ensures ∙ ap (judged greatest_ceiling) (append-nil c.args.s.now))) refl
