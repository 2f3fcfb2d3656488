-- A run that stands open stays open until End; what it stands on.
-- Assumes nothing.
use Prim.Native.Nat.{ℕ}
use mathlib.Core.Path.{◌≡◌, refl, sym, ap, ◌∙◌}
use mathlib.Core.Bool.{true, false, ◌&&◌, ◌||◌}
use mathlib.Core.List.{List, [], ◌∷◌}
use Rattle.std.proofs.Common.{Option, None, Some, IsSome}
use lib.Dec.{ltb}
use Rattle.frame.specs.Frame.{ceiling_ok}
use Rattle.table.specs.Rules.{table_ok}
use Rattle.reader.specs.State.{sound}
use Rattle.reader.specs.Refusals.{is_closed, long_store}
use Rattle.tables.specs.Calls.{next_table, open_refusal, opening}
use Rattle.runs.specs.Calls.{finishing_of, finishing_by, finish_said, phase_after}
use Rattle.reader.specs.declared.Run.{Run}
use Rattle.reader.specs.declared.Settings.{Settings}
use Rattle.reader.proofs.Laws.{passes}
use Rattle.tables.proofs.Accepted.{OpenPassed, open_free}
use Rattle.demands.specs.World.{World, TableCall, stage, withdraw, Call, open_run, feed, finish, table, look, said, told, Step, step, end}
use Rattle.demands.specs.Sequence.{NoEnd, Within, at_open}
use Rattle.demands.proofs.Steps.{How, isnt, is, how, refusal, left_force, done, clash}
use Rattle.demands.proofs.Listed.{nothing_there}
use Rattle.demands.proofs.Reached.{Good, good_step, good_end, good_new}

abbrev pub Live : World → Type 0
Live w = is_closed w.state.run.phase ≡ false

-- the refusals of Open taken apart
pub record MayOpen (x : Settings) (w : World) : Type 0 where
  pub long : OpenPassed w.state w.force w.wait
  pub closed : is_closed w.state.run.phase ≡ true
  pub ceiling : ceiling_ok x.ceiling ≡ true
  pub one : (ltb 0 w.state.waiting || ltb 0 w.state.in_force) ≡ true
  pub ok : table_ok (next_table w.state w.force w.wait) ≡ true

pub may_open : (x : Settings) (w : World) → refusal (open_run x) w ≡ None → MayOpen x w
unfolding open_refusal
may_open x w e =
    let s = w.state in
    let a = (passes (sound s && long_store w.force && long_store w.wait) 1 _ e).1 in
    let b = passes (is_closed s.run.phase) 2 _ a in
    let d = passes (ceiling_ok x.ceiling) 13 _ b.1 in
    let c = passes (ltb 0 s.waiting || ltb 0 s.in_force) 5 _ d.1 in
    record {
      long = open_free s x w.force w.wait e;
      closed = b.0;
      ceiling = d.0;
      one = c.0;
      ok = (passes (table_ok (next_table s w.force w.wait)) 4 None c.1).0;
    }

pub not_open : {X : Type 0} (x : Settings) (w : World) → Live w → refusal (open_run x) w ≡ None → X
not_open x w l e = clash (sym (may_open x w e).closed ∙ l)

-- ---- it stays open

live_finish : (o : Option ℕ) (v : List ℕ) (r : Run) → (told (said (finish_said o r v))).end ≡ None → is_closed (phase_after o) ≡ false
live_finish None v r e = nothing_there (sym e)
live_finish (Some n) v r e = refl

live_table : (t : TableCall) (w : World) → Live w → Live (done (table t) w).world
live_table (stage t) w l = l
live_table withdraw w l = l

live_done : (c : Call) (w : World) → Live w → refusal c w ≡ None → (told (done c w).answer).end ≡ None → Live (done c w).world
live_done (open_run x) w l e n = not_open x w l e
live_done (feed piece) w l e n = refl
live_done finish w l e n =
    let f = finishing_of w.state w.hold in
    live_finish f.standing f.held (finishing_by f w.state w.hold).state.run n
live_done (table t) w l e n = live_table t w l
live_done (look k) w l e n = l

live_by : (c : Call) (w : World) → Live w → {r : Step} → How c w r → (told r.answer).end ≡ None → Live r.world
live_by c w l (isnt k e) n = l
live_by c w l (is e) n = live_done c w l e n

pub live_step : (c : Call) (w : World) → Live w → (told (step c w).answer).end ≡ None → Live (step c w).world
live_step c w l n = live_by c w l (how c w) n

pub live_end : (cs : List Call) (w : World) → Live w → NoEnd cs w → Live (end cs w)
unfolding end NoEnd
live_end [] w l n = l
live_end (c ∷ cs) w l n = live_end cs (step c w).world (live_step c w l n.0) n.1

-- ---- an Open that answered a version

pub record DidOpen (x : Settings) (w : World) (r : Step) : Type 0 where
  pub may : MayOpen x w
  pub is : r.world ≡ (left_force w (opening w.state x w.force w.wait)).world

opened_by : (x : Settings) (w : World) {r : Step} → How (open_run x) w r → IsSome (told r.answer).version → DidOpen x w r
opened_by x w (isnt k e) f = let z : ⊥ = cc in absurd z
opened_by x w (is e) f = record { may = may_open x w e; is = refl }

-- what a run within a sequence stands on
pub record Stand (w : World) (before : List Call) (x : Settings) : Type 0 where
  pub start : Good (end before w)
  pub opens : DidOpen x (end before w) (step (open_run x) (end before w))
  pub good : Good (at_open w before x)
  pub live : Live (at_open w before x)

pub stands : (w : World) (before : List Call) (x : Settings) (mid : List Call) → Within w before x mid → Stand w before x
stands w before x mid h =
    let g = good_end before w (good_new w h.new) in
    let o = opened_by x (end before w) (how (open_run x) (end before w)) h.opens in
    record {
      start = g;
      opens = o;
      good = good_step (open_run x) (end before w) g;
      live = ap (λ (u : World). is_closed u.state.run.phase) o.is;
    }
