-- What a ceiling gives: a place that is not decided is short of it, and so is what More leaves held.
-- Assumes nothing.
use Prim.Native.Nat.{ℕ, ◌-◌, ◌<◌}
use native.Mathlib.Omega.{arith}
use mathlib.Core.Path.{◌≡◌, subst}
use mathlib.Core.Bool.{◌&&◌}
use mathlib.Core.List.{List}
use Rattle.std.proofs.Common.{None}
use Rattle.frame.proofs.View.{waits_short, ceilings}
use Rattle.framing.proofs.Calls.{more_decides_all}
use Rattle.scan.specs.Feed.{feed_lit}
use Rattle.reader.specs.State.{limit, ceiling_of, sound}
use Rattle.reader.specs.Said.{took}
use Rattle.reader.specs.Refusals.{long_hold}
use Rattle.runs.specs.Refusals.{feed_refusal}
use Rattle.runs.specs.Calls.{feeding_of, front}
use Rattle.reader.proofs.Laws.{passes, with_hold}
use Rattle.demands.specs.World.{World, feed, said, Step, step, end}
use Rattle.demands.specs.Sequence.{at_open}
use Rattle.demands.specs.Waits.{WaitsLess}
use Rattle.demands.proofs.Steps.{How, isnt, is, how, done}
use Rattle.demands.proofs.Going.{kept}
use Rattle.demands.proofs.Reading.{by_ceiling}
use Rattle.demands.proofs.Ending.{none_if, said_is}

held_by : (w : World) (piece : List ℕ) (n : ℕ) {r : Step} → How (feed piece) w r → r.answer ≡ said (took n None)
    → r.world.state.run.held < ceiling_of w.state
unfolding feed_refusal feeding_of
held_by w piece n (isnt k e) f = let z : ◌≡◌ {A = ℕ} 0 1 = cc in let x : ⊥ = omega arith in absurd x
held_by w piece n (is e) f =
    let top = ceiling_of w.state in
    let room = limit - w.state.run.counts.taken in
    let c = (with_hold w.state w.hold (passes (sound w.state && long_hold w.hold) 1 _ e).0).0.ceiling in
    let F = feed_lit (ceiling_of w.state) (kept w) piece (limit - w.state.run.counts.taken) in
    let q = (none_if F.standing F.taken n (front (done (feed piece) w).world.state.run) F.held (said_is _ _ f)).0 in
    omega (arith, c.low, waits_short top F.held (more_decides_all top (kept w) piece room q).1)

pub waits_less : WaitsLess
waits_less =
    record {
      decided = λ c v ok l u. omega (arith, (ceilings c ok).low, waits_short c v u, l);
      held = λ w piece n e. held_by w piece n (how (feed piece) w) e;
      run = λ w before x mid piece n h e.
          let u = end mid (at_open w before x) in
          subst (λ (c : ℕ). (step (feed piece) u).world.state.run.held < c) (by_ceiling w before x mid h) (held_by u piece n (how (feed piece) u) e);
    }
