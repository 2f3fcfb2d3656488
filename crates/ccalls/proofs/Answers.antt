-- What C is answered means what the reader says, call by call.
-- Assumes nothing.
use Prim.Native.Nat.{ℕ}
use mathlib.Core.Path.{◌≡◌, refl}
use mathlib.Core.Bool.{Bool, true, false}
use mathlib.Core.List.{List, []}
use Rattle.std.proofs.Common.{Option, None, Some}
use Rattle.reader.specs.declared.Run.{Run}
use Rattle.reader.specs.declared.State.{State}
use Rattle.reader.specs.Said.{Report, took, waited}
use Rattle.reader.specs.Outcome.{Outcome, unless}
use Rattle.reader.specs.declared.Settings.{Settings}
use Rattle.tables.specs.Calls.{open_of, opening, open_refusal, stage_of, staging, stage_refusal, withdraw_of, withdrawing, withdraw_refusal}
use Rattle.runs.specs.Refusals.{feed_refusal, finish_refusal}
use Rattle.runs.specs.Calls.{feed_of, feeding_by, feeding_of, finish_of, finish_said, finishing_by, finishing_of}
use Rattle.cform.specs.Answer.{answer_c}
use Rattle.cform.specs.Theorems.{answer_back}

module _ (finish : Bool) where
  -- refused, or what the call would have said
  unless_back : (x : Option ℕ) (s : State) (l : List ℕ) (o : Outcome) → answer_back finish (answer_c o.said) ≡ o.said
      → answer_back finish (answer_c (unless x s l o).said) ≡ (unless x s l o).said
  unless_back None s l o e = e
  unless_back (Some n) s l o e = refl

took_back : (n : ℕ) (r : Option Report) → answer_back false (answer_c (took n r)) ≡ took n r
took_back n None = refl
took_back n (Some r) = refl

finish_back : (o : Option ℕ) (r : Run) (v : List ℕ) → answer_back true (answer_c (finish_said o r v)) ≡ finish_said o r v
finish_back None r v = refl
finish_back (Some n) r v = refl

waited_back : (b : Bool) → answer_back false (answer_c (waited b)) ≡ waited b
waited_back true = refl
waited_back false = refl

module _ (s : State) where
  pub open_back : (x : Settings) (force wait : List ℕ) → answer_back false (answer_c (open_of s x force wait).said) ≡ (open_of s x force wait).said
  unfolding open_of
  open_back x force wait = unless_back false (open_refusal s x force wait) s force (opening s x force wait) refl

  pub feed_back : (hold piece : List ℕ) → answer_back false (answer_c (feed_of s hold piece).said) ≡ (feed_of s hold piece).said
  unfolding feed_of
  feed_back hold piece = unless_back false (feed_refusal s hold piece) s hold (feeding_by (feeding_of s hold piece) s hold) (took_back _ _)

  pub end_back : (hold : List ℕ) → answer_back true (answer_c (finish_of s hold).said) ≡ (finish_of s hold).said
  unfolding finish_of
  end_back hold = unless_back true (finish_refusal s hold) s hold (finishing_by (finishing_of s hold) s hold) (finish_back (finishing_of s hold).standing _ _)

  pub stage_back : (wait t : List ℕ) → answer_back false (answer_c (stage_of s wait t).said) ≡ (stage_of s wait t).said
  unfolding stage_of
  stage_back wait t = unless_back false (stage_refusal s wait t) s wait (staging s wait t) refl

  pub withdraw_back : answer_back false (answer_c (withdraw_of s).said) ≡ (withdraw_of s).said
  unfolding withdraw_of
  withdraw_back = unless_back false (withdraw_refusal s) s [] (withdrawing s) (waited_back _)
