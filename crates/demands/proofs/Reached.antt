-- What holds of every world that calls on a new reader leave: a sound state, and a hold that has the held bytes.
-- Assumes nothing.
use Prim.Native.Nat.{ℕ, ◌≤◌}
use native.Mathlib.Omega.{arith}
use mathlib.Core.Path.{◌≡◌, ap, subst⁻¹}
use mathlib.Core.Bool.{true}
use mathlib.Core.List.{List, [], ◌∷◌}
use lib.ListN.{length, drop, length-append}
use Rattle.scan.specs.Feed.{Intake}
use Rattle.feed.specs.Hold.{hold_of}
use Rattle.reader.specs.State.{sound}
use Rattle.runs.specs.Calls.{feeding_of, finishing_of}
use Rattle.reader.specs.declared.State.{State}
use Rattle.demands.specs.World.{World, stage, withdraw, Call, open_run, feed, finish, table, look, told, Step, step, end}
use Rattle.demands.specs.Sequence.{New}
use Rattle.demands.specs.Soundness.{Sound, since_open}
use Rattle.demands.proofs.Soundness.{sound_kept}
use Rattle.demands.proofs.Steps.{How, isnt, is, how, done}

pub record Good (w : World) : Type 0 where
  pub reported : ℕ
  pub sound : Sound w.state reported
  pub there : w.state.run.held ≤ length w.hold

pub good_sound : (w : World) → Good w → sound w.state ≡ true
good_sound w g = sound_kept.passes w.state g.reported g.sound

-- ---- the hold

over_hold : (f : Intake) (hold : List ℕ) → length f.held ≤ length (hold_of f hold)
over_hold f hold = omega (arith, length-append f.held (drop (length f.held) hold))

there_done : (c : Call) (w : World) → w.state.run.held ≤ length w.hold → (done c w).world.state.run.held ≤ length (done c w).world.hold
there_done (open_run x) w h = omega arith
there_done (feed piece) w h = over_hold (feeding_of w.state w.hold piece) w.hold
there_done finish w h = over_hold (finishing_of w.state w.hold) w.hold
there_done (table (stage t)) w h = h
there_done (table withdraw) w h = h
there_done (look l) w h = h

there_by : (c : Call) (w : World) → w.state.run.held ≤ length w.hold → {r : Step} → How c w r → r.world.state.run.held ≤ length r.world.hold
there_by c w h (isnt n e) = h
there_by c w h (is e) = there_done c w h

-- ---- every call keeps it

pub good_step : (c : Call) (w : World) → Good w → Good (step c w).world
good_step c w g =
    record {
      reported = since_open c (told (step c w).answer) g.reported;
      sound = sound_kept.keeps c w g.reported g.sound;
      there = there_by c w g.there (how c w);
    }

pub good_end : (cs : List Call) (w : World) → Good w → Good (end cs w)
unfolding end
good_end [] w g = g
good_end (c ∷ cs) w g = good_end cs (step c w).world (good_step c w g)

pub good_new : (w : World) → New w → Good w
good_new w n =
    let e : w.state.run.held ≡ 0 = ap (λ (s : State). s.run.held) n in
    record {
      reported = 0;
      sound = subst⁻¹ (λ (s : State). Sound s 0) n sound_kept.new;
      there = omega arith;
    }
