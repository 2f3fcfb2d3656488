-- The world is as the calls made and their answers tell.
-- Assumes nothing.
use Prim.Native.Nat.{ℕ, ◌≤◌, ◌<◌}
use native.Mathlib.Omega.{arith}
use mathlib.Core.Path.{◌≡◌, refl, sym, ap, ◌∙◌, subst, subst⁻¹}
use mathlib.Core.Bool.{Bool, true, ◌&&◌, ◌||◌}
use mathlib.Core.List.{List, [], ◌∷◌}
use Rattle.std.proofs.Common.{Option, None, Some}
use lib.ListN.{length, take, drop}
use lib.Seq.{take-append_seam}
use lib.Dec.{ltb}
use borrow.Author.Tests.{le-leb, lt-ltb}
use Rattle.scan.specs.Feed.{Intake, size}
use Rattle.feed.specs.Hold.{over, hold_of}
use Rattle.table.specs.Decode.{decode}
use Rattle.table.specs.Rules.{table_ok}
use Rattle.table.proofs.Passed as passed
use Rattle.reader.specs.State.{sound}
use Rattle.reader.specs.Said.{refused}
use Rattle.runs.specs.Refusals.{is_feeding, is_some, feed_refusal, bytes_refusal}
use Rattle.reader.specs.Refusals.{long_hold}
use Rattle.tables.specs.Calls.{next_table, open_refusal}
use Rattle.records.specs.Calls.{first_of}
use Rattle.runs.specs.Calls.{report_if, front, run_on, feeding_of, finishing_of, finish_said, phase_after, bytes_of}
use Rattle.reader.specs.Outcome.{part_unless}
use Rattle.reader.specs.declared.Phase.{Phase}
use Rattle.reader.specs.declared.Phase.TheVariants as phase
use Rattle.reader.specs.declared.Run.{Run}
use Rattle.reader.specs.declared.State.{State}
use Rattle.reader.proofs.Laws.{passes}
use Rattle.tables.proofs.Accepted.{stage_free}
use Rattle.frame.specs.Frame.{ceiling_ok}
use Rattle.reader.specs.State.{ceiling_of}
use Rattle.reader.specs.declared.Settings.{Settings}
use Rattle.demands.specs.World.{World, TableCall, stage, withdraw, bytes, Call, open_run, feed, finish, table, look, said, part, told, Step, step, end}
use Rattle.demands.specs.Sequence.{New}
use Rattle.demands.specs.History.{Past, new_past, reported_bytes, after, past, Stored, StoredIf, AsTold, AnswersBy, History}
use Rattle.demands.proofs.Steps.{How, isnt, is, how, refusal, done, table_done, unless_refused, by_refusal, clash}
use Rattle.demands.proofs.Listed.{nothing_there}
use Rattle.demands.proofs.Reached.{Good, good_sound, good_end, good_new}
use Rattle.demands.proofs.Live.{MayOpen, may_open}
use Rattle.demands.proofs.Force.{length_over, ReadBy, look_by}
use Rattle.demands.proofs.Going.{going}

-- ---- tables in stores

-- a table that keeps the rules has bytes
some_bytes : (t : List ℕ) → table_ok t ≡ true → 0 < length t
some_bytes t e = omega (arith, (passed.passed t e).file.least)

stored_some : (t : List ℕ) (n : ℕ) (store : List ℕ) → Stored t n store → 0 < n
stored_some t n store s = omega (arith, s.size, some_bytes t s.ok)

copied : (t store : List ℕ) → 8192 ≤ length store → table_ok t ≡ true → Stored t (length t) (over t store)
copied t store l e =
    record {
      long = omega (arith, length_over t store (omega (arith, (passed.passed t e).file.most)));
      size = refl;
      is = take-append_seam t (drop (length t) store);
      ok = e;
    }

-- ---- Open

-- what waits, or else what is in force, comes into force
open_force : (x : Settings) (a b : Option (List ℕ)) (w : World) → 8192 ≤ length w.force → StoredIf a w.state.waiting w.wait → StoredIf b w.state.in_force w.force
    → StoredIf (first_of a b) (done (open_run x) w).world.state.in_force (done (open_run x) w).world.force
open_force x (Some t) b w l s f =
    let n = w.state.waiting in
    let e : ltb 0 w.state.waiting ≡ true = lt-ltb 0 n (stored_some t n w.wait s) in
    rw (e, s.is, s.size) (copied t w.force l s.ok)
open_force x None b w l s f = rw (s) f

told_open : (x : Settings) (w : World) (p : Past) → MayOpen x w → AsTold w p
    → AsTold (done (open_run x) w).world (after (open_run x) (told (done (open_run x) w).answer) w.hold p)
told_open x w p m h =
    record {
      phase = refl;
      settings = refl;
      waiting = refl;
      force = open_force x p.waiting p.force w m.long.long_force h.waiting h.force;
      stands = refl;
    }

-- ---- Feed and Finish

feeding_is : (x : Phase) → is_feeding x ≡ true → x ≡ phase.Feeding
feeding_is phase.Closed e = clash (sym e)
feeding_is phase.Feeding e = refl
feeding_is phase.Finishing e = clash (sym e)

stands_by : (o : Option ℕ) (p : ℕ) (v hold : List ℕ) → take (size o) hold ≡ reported_bytes (report_if o p v) hold
stands_by None p v hold = refl
stands_by (Some n) p v hold = refl

told_feed : (w : World) (piece : List ℕ) (p : Past) → refusal (feed piece) w ≡ None → AsTold w p
    → AsTold (done (feed piece) w).world (after (feed piece) (told (done (feed piece) w).answer) (done (feed piece) w).world.hold p)
unfolding feed_refusal
told_feed w piece p e h =
    let f = feeding_of w.state w.hold piece in
    let x = (passes (is_feeding w.state.run.phase) 2 _ (passes (sound w.state && long_hold w.hold) 1 _ e).1).0 in
    record {
      phase = sym (feeding_is w.state.run.phase x) ∙ h.phase;
      settings = h.settings;
      waiting = h.waiting;
      force = h.force;
      stands = stands_by f.standing (front (run_on phase.Feeding w.state.run f)) f.held (hold_of f w.hold);
    }

told_finish_by : (w : World) (p : Past) (o : Option ℕ) (f : Intake) (r : Run) (v : List ℕ) → f.standing ≡ o → AsTold w p
    → AsTold (going (phase_after o) w f) (after finish (told (said (finish_said o r v))) (hold_of f w.hold) p)
told_finish_by w p None f r v q h =
    record { phase = refl; settings = h.settings; waiting = h.waiting; force = h.force; stands = ap (λ (o : Option ℕ). take (size o) (hold_of f w.hold)) q }
told_finish_by w p (Some n) f r v q h =
    record { phase = refl; settings = h.settings; waiting = h.waiting; force = h.force; stands = ap (λ (o : Option ℕ). take (size o) (hold_of f w.hold)) q }

told_finish : (w : World) (p : Past) → AsTold w p → AsTold (done finish w).world (after finish (told (done finish w).answer) (done finish w).world.hold p)
told_finish w p h =
    let f = finishing_of w.state w.hold in
    told_finish_by w p f.standing f (run_on (phase_after f.standing) w.state.run f) f.held refl h

-- ---- Stage and Withdraw

told_table : (t : TableCall) (w : World) (p : Past) → refusal (table t) w ≡ None → AsTold w p → AsTold (table_done t w).world (after (table t) (told (table_done t w).answer) w.hold p)
told_table (stage t) w p e h =
    let q = stage_free w.state w.wait t e in
    record { phase = h.phase; settings = h.settings; waiting = copied t w.wait q.0 q.1; force = h.force; stands = h.stands }
told_table withdraw w p e h = record { phase = h.phase; settings = h.settings; waiting = refl; force = h.force; stands = h.stands }

-- ---- every call

told_done : (c : Call) (w : World) (p : Past) → refusal c w ≡ None → AsTold w p → AsTold (done c w).world (after c (told (done c w).answer) (done c w).world.hold p)
told_done (open_run x) w p e h = told_open x w p (may_open x w e) h
told_done (feed piece) w p e h = told_feed w piece p e h
told_done finish w p e h = told_finish w p h
told_done (table (stage t)) w p e h = told_table (stage t) w p e h
told_done (table withdraw) w p e h = told_table withdraw w p e h
told_done (look l) w p e h = h

told_refused : (c : Call) (w : World) (n : ℕ) (p : Past) → after c (told (said (refused n))) w.hold p ≡ p
told_refused (open_run x) w n p = refl
told_refused (feed piece) w n p = refl
told_refused finish w n p = refl
told_refused (table (stage t)) w n p = refl
told_refused (table withdraw) w n p = refl
told_refused (look l) w n p = refl

told_by : (c : Call) (w : World) (p : Past) → AsTold w p → {r : Step} → How c w r → AsTold r.world (after c (told r.answer) r.world.hold p)
told_by c w p h (isnt n e) = subst⁻¹ (AsTold w) (told_refused c w n p) h
told_by c w p h (is e) = told_done c w p e h

told_end : (cs : List Call) (w : World) (p : Past) → AsTold w p → AsTold (end cs w) (past cs w p)
unfolding end past
told_end [] w p h = h
told_end (c ∷ cs) w p h = told_end cs (step c w).world (after c (told (step c w).answer) (step c w).world.hold p) (told_by c w p h (how c w))

told_new : (w : World) → New w → AsTold w new_past
told_new w n =
    record {
      phase = ap (λ (s : State). s.run.phase) n;
      settings = ap (λ (s : State). s.run.settings) n;
      waiting = ap (λ (s : State). s.waiting) n;
      force = ap (λ (s : State). s.in_force) n;
      stands = ap (λ (s : State). take s.run.standing w.hold) n;
    }

-- ---- the answers

record Next (w : World) (t : List ℕ) : Type 0 where
  pub is : next_table w.state w.force w.wait ≡ t
  pub one : (ltb 0 w.state.waiting || ltb 0 w.state.in_force) ≡ true
  pub ok : table_ok t ≡ true

next_by : (a b : Option (List ℕ)) (w : World) (t : List ℕ) → StoredIf a w.state.waiting w.wait → StoredIf b w.state.in_force w.force → first_of a b ≡ Some t → Next w t
next_by (Some u) b w t s f q =
    let x : u ≡ t = cc in
    let e : ltb 0 w.state.waiting ≡ true = lt-ltb 0 w.state.waiting (stored_some u w.state.waiting w.wait s) in
    record { is = rw (e) (s.is ∙ x); one = rw (e) refl; ok = subst (λ (y : List ℕ). table_ok y ≡ true) x s.ok }
next_by None (Some u) w t s f q =
    let x : u ≡ t = cc in
    let e : ltb 0 w.state.in_force ≡ true = lt-ltb 0 w.state.in_force (stored_some u w.state.in_force w.force f) in
    record { is = rw (s) (f.is ∙ x); one = rw (s, e) refl; ok = subst (λ (y : List ℕ). table_ok y ≡ true) x f.ok }
next_by None None w t s f q = nothing_there q

-- the state has a table for Open
one_by_lem : (x : Settings) (a b : Option (List ℕ)) (w : World) → StoredIf a w.state.waiting w.wait → StoredIf b w.state.in_force w.force → MayOpen x w → (t : List ℕ) × (first_of a b ≡ Some t)
one_by_lem x (Some u) b w s f m = (u, refl)
one_by_lem x None (Some u) w s f m = (u, refl)
one_by_lem x None None w s f m = clash (sym (rw (s, f) at m.one))

open_passes : (x : Settings) (w : World) (t : List ℕ) → ceiling_ok x.ceiling ≡ true → Good w → w.state.run.phase ≡ phase.Closed → Next w t → 8192 ≤ length w.force → 8192 ≤ length w.wait
    → refusal (open_run x) w ≡ None
unfolding open_refusal
open_passes x w t k g c n lf lw =
    rw (good_sound w g, le-leb 8192 (length w.force) lf, le-leb 8192 (length w.wait) lw, c, k, n.one, n.is, n.ok) refl

there_by : (a : Option (List ℕ)) (n : ℕ) (store : List ℕ) → StoredIf a n store → ltb 0 n ≡ is_some a
there_by None n store s = rw (s) refl
there_by (Some t) n store s = lt-ltb 0 n (stored_some t n store s)

force_by : (c : ℕ) (a : Option (List ℕ)) (t : List ℕ) (w : World) → ceiling_of w.state ≡ c → a ≡ Some t → StoredIf a w.state.in_force w.force → ReadBy c t w
force_by c None t w e q s = nothing_there q
force_by c (Some u) t w e q s =
    let x : u ≡ t = cc in
    record {
      ceiling = e;
      long = s.long;
      some = stored_some u w.state.in_force w.force s;
      is = s.is ∙ x;
      ok = subst (λ (y : List ℕ). table_ok y ≡ true) x s.ok;
    }

opened_by : (x : Settings) (w : World) (p : Past) → AsTold w p → {r : Step} → How (open_run x) w r → (v : ℕ) → (told r.answer).version ≡ Some v
    → (t : List ℕ) × ((first_of p.waiting p.force ≡ Some t) × (next_table w.state w.force w.wait ≡ t))
opened_by x w p h (isnt n e) v f = nothing_there f
opened_by x w p h (is e) v f =
    let o = one_by_lem x p.waiting p.force w h.waiting h.force (may_open x w e) in
    (o.0, (o.1, (next_by p.waiting p.force w o.0 h.waiting h.force o.1).is))

staged_by : (w : World) (t : List ℕ) {r : Step} → How (table (stage t)) w r → (v : ℕ) → (told r.answer).version ≡ Some v → v ≡ (decode t).version
staged_by w t (isnt n e) v f = nothing_there f
staged_by w t (is e) v f = let q : (decode t).version ≡ v = cc in sym q

withdrawn_by : (w : World) (p : Past) → AsTold w p → {r : Step} → How (table withdraw) w r → (b : Bool) → (told r.answer).waited ≡ Some b → b ≡ is_some p.waiting
withdrawn_by w p h (isnt n e) b f = nothing_there f
withdrawn_by w p h (is e) b f =
    let q : ltb 0 w.state.waiting ≡ b = cc in sym q ∙ there_by p.waiting w.state.waiting w.wait h.waiting

shown_by : (o : Option ℕ) (x b : List ℕ) → part o (part_unless o x) ≡ part None b → b ≡ x
shown_by None x b e = let q : x ≡ b = cc in sym q
shown_by (Some n) x b e = let z : ◌≡◌ {A = ℕ} 0 1 = cc in let f : ⊥ = omega arith in absurd f

shows : (w : World) (p : Past) → AsTold w p → (b : List ℕ) → (step (look bytes) w).answer ≡ part None b → b ≡ p.stands
unfolding step bytes_of
shows w p h b e = shown_by (bytes_refusal w.state w.hold) (take w.state.run.standing w.hold) b e ∙ h.stands

answers_by : (w : World) (p : Past) → Good w → AsTold w p → AnswersBy w p
answers_by w p g h =
    record {
      opens = λ x t k c q lf lw.
          let n = next_by p.waiting p.force w t h.waiting h.force q in
          ap (λ (r : Step). (told r.answer).version) (by_refusal (open_run x) w ∙ ap (λ (o : Option ℕ). unless_refused o (open_run x) w) (open_passes x w t k g (h.phase ∙ c) n lf lw))
          ∙ ap (λ (v : List ℕ). Some (decode v).version) n.is;
      found = λ x v e. opened_by x w p h (how (open_run x) w) v e;
      stages = λ t v e. staged_by w t (how (table (stage t)) w) v e;
      withdraws = λ b e. withdrawn_by w p h (how (table withdraw) w) b e;
      shows = shows w p h;
      reads = λ t l q.
          look_by p.settings.ceiling t l w g
          (force_by p.settings.ceiling p.force t w (ap (λ (x : Settings). x.ceiling) h.settings) q h.force);
    }

pub history : History
history =
    record {
      world = λ w cs n. told_end cs w new_past (told_new w n);
      answers = λ w cs n. answers_by (end cs w) (past cs w new_past) (good_end cs w (good_new w n)) (told_end cs w new_past (told_new w n));
    }
