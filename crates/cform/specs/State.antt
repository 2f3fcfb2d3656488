-- The state and the settings as C has them, and the reader's that they stand for.
-- Assumes nothing.
use Rattle.std.specs.Prelude.{ℕ, ◌≡◌, false, cond, eqb, Option, None, Some}
use Rattle.reader.specs.declared.Phase.{Phase}
use Rattle.reader.specs.declared.Phase.TheVariants.{Closed, Feeding, Finishing}
use Rattle.reader.specs.declared.Counts.{Counts}
use Rattle.reader.specs.declared.Settings.{Settings}
use Rattle.reader.specs.declared.State.{State}
use Rattle.reader.specs.State.{phase_number, sound}
use Rattle.cform.specs.declared.CCounts.{CCounts}
use Rattle.cform.specs.declared.CSettings.{CSettings}
use Rattle.cform.specs.declared.CState.{CState}

-- the phase of a number: any other is none
unfoldable pub phase_of : ℕ → Option Phase
phase_of n = cond (eqb n 0) (Some Closed) (cond (eqb n 1) (Some Feeding) (cond (eqb n 2) (Some Finishing) None))

-- the counts of a run, there and back
abbrev pub counts_c : Counts → CCounts
counts_c c = record { taken = c.taken; blocks = c.blocks; skipped = c.skipped }

abbrev pub counts_back : CCounts → Counts
counts_back c = record { taken = c.taken; blocks = c.blocks; skipped = c.skipped }

-- what Open is given and a run goes by (C17), there and back
abbrev pub settings_c : Settings → CSettings
settings_c x = record { ceiling = x.ceiling }

abbrev pub settings_back : CSettings → Settings
settings_back x = record { ceiling = x.ceiling }

abbrev pub in_phase : CState → Phase → State
in_phase s p =
    record {
      run =
          record {
            phase = p;
            held = s.held;
            standing = s.standing;
            counts = counts_back s.counts;
            settings = settings_back s.settings;
          };
      in_force = s.in_force;
      waiting = s.waiting;
    }

abbrev pub in_phase_if_any : CState → Option Phase → Option State
in_phase_if_any s None = None
in_phase_if_any s (Some p) = Some (in_phase s p)

-- the state that C's stands for: none where the phase is none
unfoldable pub state_of : CState → Option State
state_of s = in_phase_if_any s (phase_of s.phase)

-- a state as C has it
abbrev pub state_c : State → CState
state_c t =
    record {
      phase = phase_number t.run.phase;
      held = t.run.held;
      standing = t.run.standing;
      counts = counts_c t.run.counts;
      settings = settings_c t.run.settings;
      in_force = t.in_force;
      waiting = t.waiting;
    }

-- what a call is made with: the state that C's stands for; where it stands for none, any that refusal 1 names
abbrev pub Reads : Option State → State → Type 0
Reads None t = sound t ≡ false
Reads (Some u) t = t ≡ u

-- what a call gives back: the state that it left; where C's stands for none, C's own
abbrev pub back_c : CState → Option State → State → CState
back_c s None next = s
back_c s (Some t) next = state_c next
