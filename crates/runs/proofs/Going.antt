-- A run that goes on by what `feed` or `finish` did: what the code after it requires, and the run and the report that it leaves.
-- Assumes nothing.
use Rattle.std.proofs.Common.{◌≡◌, sym, ap, ◌∙◌, ℕ, ◌+◌, ◌-◌, ◌≤◌, Option, None, List, ◌&&◌, arith, length, drop, length-append, length-drop}
use Rattle.frame.specs.Judge.{judged_last}
use Rattle.scan.specs.Settle.{settle}
use Rattle.scan.specs.Feed.{Intake, feed_lit, stop}
use Rattle.feed.specs.Hold.{rest_of, numbers_of, hold_of}
use Rattle.feed.specs.declared.HoldNumbers.{HoldNumbers}
use Rattle.feed.proofs.Literally.{rest_length}
use Rattle.reader.specs.State.{limit, ceiling_of, sound}
use Rattle.reader.specs.Said.{Report}
use Rattle.reader.specs.Refusals.{long_hold}
use Rattle.reader.specs.Code.{run_by, standing_by}
use Rattle.reader.specs.declared.Phase.{Phase}
use Rattle.reader.specs.declared.Run.{Run}
use Rattle.reader.specs.declared.State.{State}
use Rattle.reader.proofs.Laws.{passes, Facts, with_hold}
use Rattle.runs.specs.Refusals.{feed_refusal, finish_refusal}
use Rattle.runs.specs.Calls.{report_if, front, run_on, feeding_of, finishing_of}
use Rattle.runs.proofs.Feeding.{WholeIf, fed_whole, end_whole, run_on_lem, standing_is, Few, fed_few, end_few}

-- ---- a call that is not refused

pub may_feed : (s : State) (hold piece : List ℕ) → feed_refusal s hold piece ≡ None → Facts s × (65536 ≤ length hold)
unfolding feed_refusal
may_feed s hold piece e = with_hold s hold (passes (sound s && long_hold hold) 1 _ e).0

pub may_finish : (s : State) (hold : List ℕ) → finish_refusal s hold ≡ None → Facts s × (65536 ≤ length hold)
unfolding finish_refusal
may_finish s hold e = with_hold s hold (passes (sound s && long_hold hold) 1 _ e).0

-- ---- what the call did, by its numbers and the hold that it left

pub record Done (s : State) (hold : List ℕ) (f : Intake) (n : HoldNumbers) (left : List ℕ) : Type 0 where
  pub numbers : n ≡ numbers_of f
  pub hold_left : left ≡ hold_of f hold
  pub whole : WholeIf f.standing f.held
  pub few : Few (s.run.held - s.run.standing) n

module _ (s : State) (hold : List ℕ) (ok : Facts s × (65536 ≤ length hold)) where
  rest_is : length (rest_of hold s.run.held s.run.standing) ≡ s.run.held - s.run.standing
  rest_is = rest_length hold s.run.held s.run.standing ok.0.front (omega (arith, ok.0.held, ok.1))

  pub fed_done : (piece : List ℕ) {n : HoldNumbers} {left : List ℕ}
      → n ≡ numbers_of (feed_lit (ceiling_of s) (rest_of hold s.run.held s.run.standing) piece (limit - s.run.counts.taken))
      → left ≡ hold_of (feed_lit (ceiling_of s) (rest_of hold s.run.held s.run.standing) piece (limit - s.run.counts.taken)) hold
      → Done s hold (feeding_of s hold piece) n left
  unfolding feeding_of
  fed_done piece e f =
      record { numbers = e; hold_left = f; whole = fed_whole _ _ _ _; few = rw (sym rest_is) (fed_few (ceiling_of s) _ piece _ _ e) }

  pub end_done : {n : HoldNumbers} {left : List ℕ}
      → n ≡ numbers_of (stop (settle (judged_last (ceiling_of s)) (rest_of hold s.run.held s.run.standing)))
      → left ≡ hold_of (stop (settle (judged_last (ceiling_of s)) (rest_of hold s.run.held s.run.standing))) hold
      → Done s hold (finishing_of s hold) n left
  unfolding finishing_of
  end_done e f =
      record { numbers = e; hold_left = f; whole = end_whole _ _; few = rw (sym rest_is) (end_few (ceiling_of s) _ _ e) }

  module _ {f : Intake} {n : HoldNumbers} {left : List ℕ} (d : Done s hold f n left) where
    -- the counts fit
    pub fits : n.taken ≤ limit - s.run.counts.taken
        → (s.run.counts.taken + n.taken ≤ 4294967295) × (s.run.counts.blocks ≤ 4294967295) × (s.run.counts.skipped + n.passed.skipped ≤ 18446744073709551615)
    fits e =
        let k = d.few in let g = ok.0 in (omega arith, omega arith, omega arith)

    module _ (x : Phase) {next : Run} (e : next ≡ run_by x s.run n) where
      -- the hold has room for a frame's head, and the place of its first byte is one
      pub holds : (6 ≤ length left) × (next.held ≤ next.counts.taken)
      holds =
          let k = d.few in
          let g = ok.0 in
          let t = ap (λ (r : Run). r.counts.taken) e in
          let h = ap (λ (r : Run). r.held) e in
          let l = ap length d.hold_left ∙ length-append f.held (drop (length f.held) hold) in
          (omega (arith, l, ok.1, length-drop (length f.held) hold), omega arith)

      pub run_is : next ≡ run_on x s.run f
      run_is = e ∙ ap (run_by x s.run) d.numbers ∙ run_on_lem x s.run f d.whole

      pub report_is_lem : {b : Option Report} → b ≡ standing_by next.standing left (front next) → b ≡ report_if f.standing (front (run_on x s.run f)) f.held
      report_is_lem h =
          h
          ∙ ap (λ (r : Run). standing_by r.standing left (front r)) run_is
          ∙ ap (λ (l : List ℕ). standing_by (run_on x s.run f).standing l (front (run_on x s.run f))) d.hold_left
          ∙ standing_is f.standing f.held (drop (length f.held) hold) (front (run_on x s.run f)) d.whole
