-- The table in force is not touched while a run is open, and every record is read by it, and Write writes by it.
-- Assumes nothing.
use Prim.Native.Nat.{ℕ, ◌≤◌, ◌<◌}
use native.Mathlib.Omega.{arith}
use mathlib.Core.Path.{◌≡◌, refl, sym, ap, ap₂, ◌∙◌, subst⁻¹}
use mathlib.Core.Bool.{Bool, true, false}
use mathlib.Core.List.{List, [], ◌∷◌}
use Rattle.std.proofs.Common.{None}
use lib.ListN.{length, take, drop, length-append, length-drop}
use lib.Seq.{take-append_seam, length-take-le}
use lib.Dec.{ltb}
use borrow.Author.Tests.{le-leb, lt-ltb, ltb-true}
use Rattle.table.specs.Rules.{table_ok}
use Rattle.table.specs.Decode.{decode}
use Rattle.tables.specs.Calls.{next_table, opening}
use Rattle.feed.specs.Hold.{over}
use Rattle.records.specs.Calls.{table_in_force, ask_refusal, body_of, sub_of, sub_bytes_of, sub_bytes_refusal, stamp_of}
use Rattle.epochs.specs.Calls.{sub2_of, range_of, range2_of}
use Rattle.writes.specs.Calls.{write_of}
use Rattle.reader.specs.State.{ceiling_of}
use Rattle.reader.specs.declared.Settings.{Settings}
use Rattle.demands.specs.World.{World, TableCall, stage, withdraw, Look, bytes, body, sub, sub_bytes, sub2, range, range2, tow, wnc, write, Call, open_run, feed, finish, table, look, Step, looked, step, end}
use Rattle.demands.specs.Sequence.{NoEnd, Within, at_open}
use Rattle.demands.specs.Demand2.{ReadsBy}
use Rattle.demands.specs.Demand3.{found_by}
use Rattle.demands.proofs.Steps.{How, isnt, is, how, refusal, left_force, done}
use Rattle.demands.proofs.Reached.{Good, good_sound, good_end}
use Rattle.demands.proofs.Live.{Live, not_open, live_step, MayOpen, stands}

-- ---- it is not touched

pub record SameForce (w u : World) : Type 0 where
  pub ceiling : ceiling_of u.state ≡ ceiling_of w.state
  pub number : u.state.in_force ≡ w.state.in_force
  pub store : u.force ≡ w.force

same_table : (t : TableCall) (w : World) → SameForce w (done (table t) w).world
same_table (stage t) w = record { ceiling = refl; number = refl; store = refl }
same_table withdraw w = record { ceiling = refl; number = refl; store = refl }

same_done : (c : Call) (w : World) → Live w → refusal c w ≡ None → SameForce w (done c w).world
same_done (open_run x) w l e = not_open x w l e
same_done (feed piece) w l e = record { ceiling = refl; number = refl; store = refl }
same_done finish w l e = record { ceiling = refl; number = refl; store = refl }
same_done (table t) w l e = same_table t w
same_done (look k) w l e = record { ceiling = refl; number = refl; store = refl }

same_by : (c : Call) (w : World) → Live w → {r : Step} → How c w r → SameForce w r.world
same_by c w l (isnt n e) = record { ceiling = refl; number = refl; store = refl }
same_by c w l (is e) = same_done c w l e

-- ---- a record is read by it

-- a table that keeps the rules is in force, and this ceiling
pub record ReadBy (c : ℕ) (t : List ℕ) (w : World) : Type 0 where
  pub ceiling : ceiling_of w.state ≡ c
  pub long : 8192 ≤ length w.force
  pub some : 0 < w.state.in_force
  pub is : table_in_force w.state w.force ≡ t
  pub ok : table_ok t ≡ true

kept_by : (c : ℕ) (t : List ℕ) (w u : World) → SameForce w u → ReadBy c t w → ReadBy c t u
kept_by c t w u s r =
    record {
      ceiling = s.ceiling ∙ r.ceiling;
      long = omega (arith, ap length s.store, r.long);
      some = omega (arith, s.number, r.some);
      is = ap₂ (λ (n : ℕ) (x : List ℕ). take n x) s.number s.store ∙ r.is;
      ok = r.ok;
    }

no_refusal : (c : ℕ) (t : List ℕ) (w : World) → Good w → ReadBy c t w → ask_refusal w.state w.force ≡ None
unfolding ask_refusal
no_refusal c t w g r =
    rw (good_sound w g, le-leb 8192 (length w.force) r.long, lt-ltb 0 w.state.in_force r.some, r.is, r.ok) refl

looked_by : (c : ℕ) (t : List ℕ) (l : Look) (w : World) → Good w → ReadBy c t w → ReadsBy c (decode t) l (looked l w)
unfolding body_of sub_of sub_bytes_of sub_bytes_refusal sub2_of range_of range2_of stamp_of write_of
looked_by c t bytes w g r = tt
looked_by c t (body b i) w g r = rw (no_refusal c t w g r, r.is) refl
looked_by c t (sub b k j) w g r = rw (no_refusal c t w g r, r.is) refl
looked_by c t (sub_bytes b k) w g r = rw (no_refusal c t w g r, r.is) refl
looked_by c t (sub2 b k m j) w g r = rw (no_refusal c t w g r, r.is) refl
looked_by c t (range b k) w g r = rw (no_refusal c t w g r, r.is) refl
looked_by c t (range2 b k m) w g r = rw (no_refusal c t w g r, r.is) refl
looked_by c t (tow b) w g r = rw (good_sound w g) refl
looked_by c t (wnc b) w g r = rw (good_sound w g) refl
looked_by c t (write d buffer) w g r = rw (no_refusal c t w g r, r.is, r.ceiling) refl

pub look_by : (c : ℕ) (t : List ℕ) (l : Look) (w : World) → Good w → ReadBy c t w → ReadsBy c (decode t) l (step (look l) w).answer
unfolding step
look_by c t l w g r = looked_by c t l w g r

-- ---- the table that Open found comes into force

pub length_over : (v h : List ℕ) → length v ≤ length h → length (over v h) ≡ length h
length_over v h l = omega (arith, length-append v (drop (length v) h), length-drop (length v) h)

found_by_lem : (b : Bool) (x : Settings) (w : World) → Good w → MayOpen x w → ltb 0 w.state.waiting ≡ b
    → ReadBy x.ceiling (next_table w.state w.force w.wait) (left_force w (opening w.state x w.force w.wait)).world
found_by_lem true x w g m e =
    let s = w.state in
    let n = w.state.waiting in
    let f = m.long in
    let lt : length (take w.state.waiting w.wait) ≡ w.state.waiting = length-take-le n w.wait (omega (arith, f.facts.waiting, f.long_wait)) in
    let lo = length_over (take w.state.waiting w.wait) w.force (omega (arith, f.facts.waiting, f.long_force)) in
    record {
      ceiling = refl;
      long = rw e (omega (arith, lo, f.long_force));
      some = rw e (ltb-true 0 n e);
      is = rw e (ap (λ (k : ℕ). take k (over (take w.state.waiting w.wait) w.force)) (sym lt) ∙ take-append_seam (take w.state.waiting w.wait) (drop (length (take w.state.waiting w.wait)) w.force));
      ok = m.ok;
    }
found_by_lem false x w g m e =
    record {
      ceiling = refl;
      long = rw e m.long.long_force;
      some = rw e (ltb-true 0 w.state.in_force (rw e at m.one));
      is = rw e refl;
      ok = m.ok;
    }

-- on it stands the run
pub found : (w : World) (before : List Call) (x : Settings) (mid : List Call) → Within w before x mid
    → ReadBy x.ceiling (next_table (end before w).state (end before w).force (end before w).wait) (at_open w before x)
found w before x mid h =
    let s = stands w before x mid h in
    let t = next_table (end before w).state (end before w).force (end before w).wait in
    subst⁻¹ (ReadBy x.ceiling t) s.opens.is (found_by_lem (ltb 0 (end before w).state.waiting) x (end before w) s.start s.opens.may refl)

pub read_end : (c : ℕ) (t : List ℕ) (cs : List Call) (w : World) → Live w → NoEnd cs w → ReadBy c t w → ReadBy c t (end cs w)
unfolding end NoEnd
read_end k t [] w l n r = r
read_end k t (c ∷ cs) w l n r = read_end k t cs (step c w).world (live_step c w l n.0) n.1 (kept_by k t w (step c w).world (same_by c w l (how c w)) r)

-- at every moment of it a record is read by that table
pub one_table : (w : World) (before : List Call) (x : Settings) (mid : List Call) → Within w before x mid → (l : Look)
    → ReadsBy x.ceiling (found_by (end before w)) l (step (look l) (end mid (at_open w before x))).answer
one_table w before x mid h l =
    let s = stands w before x mid h in
    let t = next_table (end before w).state (end before w).force (end before w).wait in
    look_by x.ceiling t l (end mid (at_open w before x)) (good_end mid (at_open w before x) s.good)
    (read_end x.ceiling t mid (at_open w before x) s.live h.no_end (found w before x mid h))
