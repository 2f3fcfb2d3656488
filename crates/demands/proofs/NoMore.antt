-- A front of the piece that is shorter than what a Feed took: it is not refused either, gives no block, and is taken whole.
-- Assumes nothing.
use Prim.Native.Nat.{ℕ, ◌-◌, ◌≤◌, ◌<◌}
use native.Mathlib.Omega.{arith}
use mathlib.Core.Path.{◌≡◌, refl, ap, ap₂, ◌∙◌}
use mathlib.Core.Bool.{◌&&◌}
use mathlib.Core.List.{List}
use Rattle.std.proofs.Common.{Option, None}
use lib.ListN.{length, take}
use lib.Seq.{length-take-le}
use borrow.Author.Tests.{lt-ltb}
use Rattle.frame.specs.Judge.{judged}
use Rattle.scan.proofs.Stable.{judging}
use Rattle.scan.proofs.Calls.{call}
use Rattle.framing.proofs.Calls.{more_decides_all, block_decides_no_more}
use Rattle.reader.specs.State.{limit, ceiling_of, sound}
use Rattle.reader.specs.Said.{Report, took}
use Rattle.reader.specs.Refusals.{long_hold}
use Rattle.runs.specs.Refusals.{is_feeding, feed_refusal}
use Rattle.runs.specs.Calls.{report_if, feeding_of, front}
use Rattle.reader.proofs.Laws.{passes}
use Rattle.demands.specs.World.{World, feed, said, Step, step}
use Rattle.demands.specs.NoMore.{TakesNoMore}
use Rattle.demands.proofs.Steps.{How, isnt, is, how, refusal, done, unless_refused, by_refusal}
use Rattle.demands.proofs.Going.{kept}
use Rattle.demands.proofs.Ending.{said_is}

taken_is : (t n : ℕ) (a r : Option Report) → took t a ≡ took n r → t ≡ n
taken_is t n a r e = cc

module _ (w : World) (piece : List ℕ) (m : ℕ) (e : refusal (feed piece) w ≡ None) (l : m < (feeding_of w.state w.hold piece).taken) where
  -- there is room for what was taken, and the piece has it
  fits : (m < limit - w.state.run.counts.taken) × (m ≤ length piece)
  unfolding feeding_of
  fits =
      let k = (call (judged (ceiling_of w.state)) (judging (ceiling_of w.state)).fits (kept w) piece (limit - w.state.run.counts.taken)).taken in
      (omega (arith, k), omega (arith, k))

  accepted : refusal (feed (take m piece)) w ≡ None
  unfolding feed_refusal
  accepted =
      let one = passes (sound w.state && long_hold w.hold) 1 _ e in
      let two = passes (is_feeding w.state.run.phase) 2 _ one.1 in
      rw (one.0, two.0, lt-ltb w.state.run.counts.taken limit (omega (arith, fits.0))) refl

  no_block : (feeding_of w.state w.hold (take m piece)).standing ≡ None
  unfolding feeding_of
  no_block = (block_decides_no_more (ceiling_of w.state)).least (kept w) piece (limit - w.state.run.counts.taken) m l

  all_taken : (feeding_of w.state w.hold (take m piece)).taken ≡ m
  unfolding feeding_of
  all_taken =
      let t = (more_decides_all (ceiling_of w.state) (kept w) (take m piece) (limit - w.state.run.counts.taken) no_block).0 in
      omega (arith, t, length-take-le m piece fits.1, fits.0)

  answers_more : (step (feed (take m piece)) w).answer ≡ said (took m None)
  answers_more =
      let F = feeding_of w.state w.hold (take m piece) in
      ap (λ (s : Step). s.answer) (by_refusal (feed (take m piece)) w ∙ ap (λ (o : Option ℕ). unless_refused o (feed (take m piece)) w) accepted)
      ∙ ap₂ (λ (t : ℕ) (o : Option ℕ). said (took t (report_if o (front (done (feed (take m piece)) w).world.state.run) F.held))) all_taken no_block

no_more_by : (w : World) (piece : List ℕ) (n m : ℕ) (r : Option Report) {s : Step} → How (feed piece) w s → s.answer ≡ said (took n r) → m < n
    → (step (feed (take m piece)) w).answer ≡ said (took m None)
no_more_by w piece n m r (isnt k e) f l = let z : ◌≡◌ {A = ℕ} 0 1 = cc in let x : ⊥ = omega arith in absurd x
no_more_by w piece n m r (is e) f l =
    answers_more w piece m e (omega (arith, l, taken_is (feeding_of w.state w.hold piece).taken n _ r (said_is _ _ f)))

pub takes_no_more : TakesNoMore
takes_no_more w piece n m r e l = no_more_by w piece n m r (how (feed piece) w) e l
