-- What the calls made and their answers say of a reader, whatever its code: the phase, the settings, the table that waits, the one in
-- force, and the block that stands. A reader that idles through a run, forgets a table or keeps one that was withdrawn contradicts it (D5).
-- Assumes nothing.
use Rattle.std.specs.Prelude.{ℕ, ◌≤◌, ◌≡◌, Bool, true, List, [], ◌∷◌, length, take, Option, None, Some}
use Rattle.frame.specs.Frame.{ceiling_ok}
use Rattle.table.specs.Decode.{decode}
use Rattle.table.specs.Rules.{table_ok}
use Rattle.reader.specs.State.{default_settings}
use Rattle.reader.specs.Said.{Report}
use Rattle.tables.specs.Calls.{next_table}
use Rattle.runs.specs.Refusals.{is_some}
use Rattle.records.specs.Calls.{first_of}
use Rattle.reader.specs.declared.Settings.{Settings}
use Rattle.reader.specs.declared.Phase.{Phase}
use Rattle.reader.specs.declared.Phase.TheVariants.{Closed, Feeding, Finishing}
use Rattle.demands.specs.World.{World, stage, withdraw, Look, bytes, Call, open_run, feed, finish, table, look, part, Told, told, step, end}
use Rattle.demands.specs.Sequence.{New}
use Rattle.demands.specs.Demand2.{ReadsBy}

pub record Past : Type 0 where
  pub phase : Phase
  -- C17: those of the last Open, in a run and after it
  pub settings : Settings
  pub waiting : Option (List ℕ)
  pub force : Option (List ℕ)
  -- the bytes of the block that stands; none stands where there are none
  pub stands : List ℕ

abbrev pub new_past : Past
new_past = record { phase = Closed; settings = default_settings; waiting = None; force = None; stands = [] }

-- C4: a reported block stands at the front of the hold
abbrev pub reported_bytes : Option Report → List ℕ → List ℕ
reported_bytes None hold = []
reported_bytes (Some r) hold = take r.size hold

-- the past after what was told, or as it was where that was not told
abbrev pub on_told : {A : Type 0} → Option A → Past → Past → Past
on_told None was new = was
on_told (Some x) was new = new

abbrev pub waits_now : Option (List ℕ) → Past → Past
waits_now t p = record { phase = p.phase; settings = p.settings; waiting = t; force = p.force; stands = p.stands }

abbrev pub run_now : Phase → List ℕ → Past → Past
run_now x b p = record { phase = x; settings = p.settings; waiting = p.waiting; force = p.force; stands = b }

-- after a call and what it told, which left this hold; a refusal changes nothing (R21)
abbrev pub after : Call → Told → List ℕ → Past → Past
-- C5, C17: the run opens by the settings given, with the table that waits, or else with the one in force; none waits, and no block stands
after (open_run x) a hold p =
    on_told a.version p (record { phase = Feeding; settings = x; waiting = None; force = first_of p.waiting p.force; stands = [] })
-- C6: the standing block is dropped, and one that is answered stands
after (feed piece) a hold p = on_told a.taken p (run_now p.phase (reported_bytes a.block hold) p)
-- C8: likewise, and the feeding is ended; End closes the run
after finish a hold p =
    on_told a.end (on_told a.block p (run_now Finishing (reported_bytes a.block hold) p)) (run_now Closed [] p)
-- C10: it waits, in place of any other
after (table (stage t)) a hold p = on_told a.version p (waits_now (Some t) p)
-- C11: none waits
after (table withdraw) a hold p = on_told a.waited p (waits_now None p)
after (look l) a hold p = p

unfoldable pub past : List Call → World → Past → Past
past [] w p = p
past (c ∷ cs) w p = past cs (step c w).world (after c (told (step c w).answer) (step c w).world.hold p)

-- ---- the world is as it was told

-- a table that keeps the rules stands at the start of its store, or none does
pub record Stored (t : List ℕ) (n : ℕ) (store : List ℕ) : Type 0 where
  pub long : 8192 ≤ length store
  pub size : n ≡ length t
  pub is : take n store ≡ t
  pub ok : table_ok t ≡ true

abbrev pub StoredIf : Option (List ℕ) → ℕ → List ℕ → Type 0
StoredIf None n store = n ≡ 0
StoredIf (Some t) n store = Stored t n store

pub record AsTold (w : World) (p : Past) : Type 0 where
  pub phase : w.state.run.phase ≡ p.phase
  pub settings : w.state.run.settings ≡ p.settings
  pub waiting : StoredIf p.waiting w.state.waiting w.wait
  pub force : StoredIf p.force w.state.in_force w.force
  pub stands : take w.state.run.standing w.hold ≡ p.stands

-- and it answers so
pub record AnswersBy (w : World) (p : Past) : Type 0 where
  -- C5: a run opens whenever none is open, the ceiling is one (F16) and a table is there
  pub opens : (x : Settings) (t : List ℕ) → ceiling_ok x.ceiling ≡ true → p.phase ≡ Closed → first_of p.waiting p.force ≡ Some t → 8192 ≤ length w.force → 8192 ≤ length w.wait
      → (told (step (open_run x) w).answer).version ≡ Some (decode t).version
  -- and it opens with that table, which is the one that `Demand3` has all records read by
  pub found : (x : Settings) (v : ℕ) → (told (step (open_run x) w).answer).version ≡ Some v
      → (t : List ℕ) × ((first_of p.waiting p.force ≡ Some t) × (next_table w.state w.force w.wait ≡ t))
  -- C10, C11: the version of the table given; whether one waited
  pub stages : (t : List ℕ) (v : ℕ) → (told (step (table (stage t)) w).answer).version ≡ Some v → v ≡ (decode t).version
  pub withdraws : (b : Bool) → (told (step (table withdraw) w).answer).waited ≡ Some b → b ≡ is_some p.waiting
  -- C9: the standing block, however long ago it was reported
  pub shows : (b : List ℕ) → (step (look bytes) w).answer ≡ part None b → b ≡ p.stands
  -- records are read by the table in force, and Write writes by it and under the ceiling of the last Open, in a run and after it
  pub reads : (t : List ℕ) (l : Look) → p.force ≡ Some t → ReadsBy p.settings.ceiling (decode t) l (step (look l) w).answer

pub record History : Type 0 where
  pub world : (w : World) (cs : List Call) → New w → AsTold (end cs w) (past cs w new_past)
  pub answers : (w : World) (cs : List Call) → New w → AnswersBy (end cs w) (past cs w new_past)
