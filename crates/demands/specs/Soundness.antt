-- Sound states: what every call keeps of a state, whatever the buffers. It has all that R1 asks of one; and the bytes taken are
-- as many as those reported, skipped and held.
-- Assumes nothing.
use Rattle.std.specs.Prelude.{ℕ, ◌+◌, ◌-◌, ◌≤◌, ◌≡◌, true, cond, Option, None, Some}
use Rattle.frame.specs.Frame.{ceiling_ok}
use Rattle.reader.specs.State.{limit, new_state, ceiling_of, sound}
use Rattle.reader.specs.Said.{Report}
use Rattle.runs.specs.Refusals.{is_some}
use Rattle.reader.specs.declared.State.{State}
use Rattle.demands.specs.World.{World, Call, open_run, feed, finish, table, look, Told, told, step}

-- `reported` is the sum of the lengths of the blocks reported since Open, the standing one among them
pub record Sound (s : State) (reported : ℕ) : Type 0 where
  pub few : s.run.held ≤ 65532
  pub front : s.run.standing ≤ s.run.held
  pub among : s.run.standing ≤ reported
  pub count : s.run.counts.blocks ≤ reported
  -- held are here those behind the standing block, which are not reported yet
  pub sum : reported + s.run.counts.skipped + (s.run.held - s.run.standing) ≡ s.run.counts.taken
  pub most : s.run.counts.taken ≤ limit
  pub force : s.in_force ≤ 8192
  pub wait : s.waiting ≤ 8192
  pub ceiling : ceiling_ok (ceiling_of s) ≡ true

abbrev pub report_size : Option Report → ℕ
report_size None = 0
report_size (Some r) = r.size

-- `reported` after a call and what it told: a run that opens has reported no block
abbrev pub since_open : Call → Told → ℕ → ℕ
since_open (open_run x) a reported = cond (is_some a.version) 0 reported
since_open (feed piece) a reported = reported + report_size a.block
since_open finish a reported = reported + report_size a.block
since_open (table t) a reported = reported
since_open (look l) a reported = reported

pub record SoundKept : Type 0 where
  pub new : Sound new_state 0
  pub keeps : (c : Call) (w : World) (reported : ℕ) → Sound w.state reported
      → Sound (step c w).world.state (since_open c (told (step c w).answer) reported)
  -- R1: a sound state is none that it names
  pub passes : (s : State) (reported : ℕ) → Sound s reported → sound s ≡ true
