-- Table calls and the others do not meet while a run is open: neither looks at, nor changes, what the other does.
-- Assumes nothing.
use Prim.Native.Nat.{ℕ, ◌≤◌}
use native.Mathlib.Omega.{arith}
use mathlib.Core.Path.{◌≡◌, refl, sym, ap, ◌∙◌, subst}
use mathlib.Core.Bool.{false}
use mathlib.Core.List.{List, [], ◌∷◌}
use Rattle.std.proofs.Common.{Option, None, Some}
use lib.ListN.{length}
use Rattle.table.proofs.Passed as passed
use Rattle.reader.specs.State.{sound}
use Rattle.tables.specs.Calls.{open_refusal, stage_refusal, withdraw_refusal}
use Rattle.runs.specs.Refusals.{feed_refusal, finish_refusal, bytes_refusal}
use Rattle.runs.specs.Calls.{feeding_of, finishing_of, bytes_of}
use Rattle.records.specs.Calls.{ask_refusal, body_of, sub_of, sub_bytes_of, sub_bytes_refusal, stamp_of}
use Rattle.epochs.specs.Calls.{sub2_of, range_of, range2_of}
use Rattle.tables.proofs.Accepted.{stage_free}
use Rattle.writes.specs.Calls.{write_of}
use Rattle.reader.specs.declared.Settings.{Settings}
use Rattle.demands.specs.World.{World, TableCall, stage, withdraw, Look, bytes, body, sub, sub_bytes, sub2, range, range2, tow, wnc, write, Call, open_run, feed, finish, table, look, Reply, Step, looked, step, end}
use Rattle.demands.specs.Demand3.{is_table}
use Rattle.demands.proofs.Steps.{How, isnt, is, how, refusal, table_refusals, done, table_done, unless_refused, by_refusal, clash}
use Rattle.demands.proofs.Reached.{Good, good_sound}
use Rattle.demands.proofs.Live.{Live, not_open}
use Rattle.demands.proofs.Force.{length_over}
use Rattle.demands.proofs.Soundness.{waits_on}

-- the waiting place: how long the table is that waits, and the store
pub record Waiting : Type 0 where
  pub size : ℕ
  pub store : List ℕ

abbrev pub waits : World → Waiting
waits w = record { size = w.state.waiting; store = w.wait }

-- the world with another waiting place
abbrev pub with : World → Waiting → World
with w p =
    record {
      state = record { run = w.state.run; in_force = w.state.in_force; waiting = p.size };
      hold = w.hold;
      force = w.force;
      wait = p.store;
    }

-- a step left with another waiting place, and one left over another base
abbrev pub placed : Step → Waiting → Step
placed r p = record { answer = r.answer; world = with r.world p }

abbrev pub based : World → Step → Step
based x r = record { answer = r.answer; world = with x (waits r.world) }

-- a waiting place that may stand for another
pub record Fit (p q : Waiting) : Type 0 where
  pub few : p.size ≤ 8192
  pub long : length p.store ≡ length q.store

pub good_with : (w : World) (p : Waiting) → Good w → p.size ≤ 8192 → Good (with w p)
good_with w p g l =
    record {
      reported = g.reported;
      sound = waits_on w.state g.reported p.size g.sound l;
      there = g.there;
    }

sound_with : (w : World) (p : Waiting) → Good w → p.size ≤ 8192 → sound (with w p).state ≡ sound w.state
sound_with w p g l = good_sound (with w p) (good_with w p g l) ∙ sym (good_sound w g)

-- ---- a table call looks at the waiting place alone, and changes nothing else

table_refusal_lem : (t : TableCall) (w x : World) → Good w → Good x → table_refusals t (with x (waits w)) ≡ table_refusals t w
unfolding stage_refusal withdraw_refusal
table_refusal_lem (stage t) w x g k = rw (good_sound (with x (waits w)) (good_with x (waits w) k g.sound.wait), good_sound w g) refl
table_refusal_lem withdraw w x g k = rw (good_sound (with x (waits w)) (good_with x (waits w) k g.sound.wait), good_sound w g) refl

mirror_by : (o : Option ℕ) (t : TableCall) (w x : World)
    → unless_refused o (table t) (with x (waits w)) ≡ based x (unless_refused o (table t) w)
mirror_by (Some n) t w x = refl
mirror_by None (stage t) w x = refl
mirror_by None withdraw w x = refl

pub mirror : (t : TableCall) (w x : World) → Good w → Good x
    → step (table t) (with x (waits w)) ≡ based x (step (table t) w)
mirror t w x g k =
    by_refusal (table t) (with x (waits w))
    ∙ ap (λ (o : Option ℕ). unless_refused o (table t) (with x (waits w))) (table_refusal_lem t w x g k)
    ∙ mirror_by (table_refusals t w) t w x
    ∙ ap (based x) (sym (by_refusal (table t) w))

base_done : (t : TableCall) (w : World) (p : Waiting) → with (table_done t w).world p ≡ with w p
base_done (stage t) w p = refl
base_done withdraw w p = refl

pub base_by : (t : TableCall) (w : World) (p : Waiting) {r : Step} → How (table t) w r → with r.world p ≡ with w p
base_by t w p (isnt k e) = refl
base_by t w p (is e) = base_done t w p

-- ---- another call, while a run is open, does not look at the waiting place, and leaves it

look_apart : (l : Look) (w : World) (p : Waiting) → Good w → p.size ≤ 8192 → looked l (with w p) ≡ looked l w
unfolding bytes_refusal bytes_of ask_refusal body_of sub_of sub_bytes_of sub_bytes_refusal sub2_of range_of range2_of stamp_of write_of
look_apart bytes w p g l = rw (sound_with w p g l) refl
look_apart (body b i) w p g l = rw (sound_with w p g l) refl
look_apart (sub b k j) w p g l = rw (sound_with w p g l) refl
look_apart (sub_bytes b k) w p g l = rw (sound_with w p g l) refl
look_apart (sub2 b k m j) w p g l = rw (sound_with w p g l) refl
look_apart (range b k) w p g l = rw (sound_with w p g l) refl
look_apart (range2 b k m) w p g l = rw (sound_with w p g l) refl
look_apart (tow b) w p g l = rw (sound_with w p g l) refl
look_apart (wnc b) w p g l = rw (sound_with w p g l) refl
look_apart (write d buffer) w p g l = rw (sound_with w p g l) refl

apart_done : (o : Option ℕ) (c : Call) (w : World) (p : Waiting) → Good w → p.size ≤ 8192 → is_table c ≡ false → ((x : Settings) → c ≡ open_run x → o ≡ None → ⊥)
    → unless_refused o c (with w p) ≡ placed (unless_refused o c w) p
unfolding feeding_of finishing_of
apart_done (Some k) c w p g l e h = refl
apart_done None (open_run x) w p g l e h = absurd (h x refl refl)
apart_done None (feed piece) w p g l e h = refl
apart_done None finish w p g l e h = refl
apart_done None (table t) w p g l e h = clash e
apart_done None (look k) w p g l e h = ap (λ (a : Reply). record { answer = a; world = with w p }) (look_apart k w p g l)

apart_refusal : (c : Call) (w : World) (p : Waiting) → is_table c ≡ false → Good w → Live w → Fit p (waits w) → refusal c (with w p) ≡ refusal c w
unfolding open_refusal feed_refusal finish_refusal
apart_refusal (open_run x) w p e g l f = rw (sound_with w p g f.few, l, f.long) refl
apart_refusal (feed piece) w p e g l f = rw (sound_with w p g f.few) refl
apart_refusal finish w p e g l f = rw (sound_with w p g f.few) refl
apart_refusal (table t) w p e g l f = clash e
apart_refusal (look k) w p e g l f = refl

never_open : (c : Call) (w : World) → Live w → (x : Settings) → c ≡ open_run x → refusal c w ≡ None → ⊥
never_open c w l x h e = not_open x w l (subst (λ (k : Call). refusal k w ≡ None) h e)

pub apart : (c : Call) (w : World) (p : Waiting) → is_table c ≡ false → Good w → Live w → Fit p (waits w)
    → step c (with w p) ≡ placed (step c w) p
apart c w p e g l f =
    by_refusal c (with w p)
    ∙ ap (λ (o : Option ℕ). unless_refused o c (with w p)) (apart_refusal c w p e g l f)
    ∙ apart_done (refusal c w) c w p g f.few e (never_open c w l)
    ∙ ap (λ (r : Step). placed r p) (sym (by_refusal c w))

left_done : (c : Call) (w : World) → is_table c ≡ false → Live w → refusal c w ≡ None → waits (done c w).world ≡ waits w
left_done (open_run x) w e l f = not_open x w l f
left_done (feed piece) w e l f = refl
left_done finish w e l f = refl
left_done (table t) w e l f = clash e
left_done (look k) w e l f = refl

pub left_by : (c : Call) (w : World) → is_table c ≡ false → Live w → {r : Step} → How c w r → waits r.world ≡ waits w
left_by c w e l (isnt k h) = refl
left_by c w e l (is f) = left_done c w e l f

-- ---- the waiting store keeps its length

same_table : (t : TableCall) (w : World) → table_refusals t w ≡ None → length (table_done t w).world.wait ≡ length w.wait
same_table (stage t) w e =
    let p = stage_free w.state w.wait t e in
    length_over t w.wait (omega (arith, (passed.passed t p.1).file.most, p.0))
same_table withdraw w e = refl

same_done : (c : Call) (w : World) → refusal c w ≡ None → length (done c w).world.wait ≡ length w.wait
same_done (open_run x) w f = refl
same_done (feed piece) w f = refl
same_done finish w f = refl
same_done (table t) w f = same_table t w f
same_done (look k) w f = refl

pub same_by : (c : Call) (w : World) {r : Step} → How c w r → length r.world.wait ≡ length w.wait
same_by c w (isnt k l) = refl
same_by c w (is f) = same_done c w f

pub same_length : (cs : List Call) (w : World) → length (end cs w).wait ≡ length w.wait
unfolding end
same_length [] w = refl
same_length (c ∷ cs) w = same_length cs (step c w).world ∙ same_by c w (how c w)
