-- The state: its phase by number, the settings that it goes by (rule C17), a new reader's (C15), and what refusal 1 asks of any
-- (R1).
-- Assumes nothing.
use Rattle.std.specs.Prelude.{ℕ, Bool, ◌&&◌, leb}
use Rattle.frame.specs.Frame.{greatest_ceiling, ceiling_ok}
use Rattle.reader.specs.declared.Phase.{Phase}
use Rattle.reader.specs.declared.Phase.TheVariants.{Closed, Feeding, Finishing}
use Rattle.reader.specs.declared.Counts.{Counts}
use Rattle.reader.specs.declared.Run.{Run}
use Rattle.reader.specs.declared.Settings.{Settings}
use Rattle.reader.specs.declared.State.{State}

-- the phases' numbers, in C and in replay's lines: 0 closed, 1 feeding, 2 after the first Finish
abbrev pub phase_number : Phase → ℕ
phase_number Closed = 0
phase_number Feeding = 1
phase_number Finishing = 2

-- C6: the most bytes that a run takes
abbrev pub limit : ℕ
limit = 4294967295

-- C5, C15: nothing is counted yet
abbrev pub no_counts : Counts
no_counts = record { taken = 0; blocks = 0; skipped = 0 }

-- C15, C17: those of a reader that was never opened
abbrev pub default_settings : Settings
default_settings = record { ceiling = greatest_ceiling }

abbrev pub no_run : Run
no_run = record { phase = Closed; held = 0; standing = 0; counts = no_counts; settings = default_settings }

-- C15: a new reader's
abbrev pub new_state : State
new_state = record { run = no_run; in_force = 0; waiting = 0 }

-- C17: the ceiling that a state goes by
abbrev pub ceiling_of : State → ℕ
ceiling_of s = s.run.settings.ceiling

-- R1, its half about the state: no number in it is too large, and its ceiling is one
unfoldable pub sound : State → Bool
sound s =
    leb s.run.held 65532
    && leb s.run.held s.run.counts.taken
    && leb s.run.standing s.run.held
    && leb s.in_force 8192
    && leb s.waiting 8192
    && leb s.run.counts.taken limit
    && leb s.run.counts.blocks s.run.counts.taken
    && leb s.run.counts.skipped s.run.counts.taken
    && ceiling_ok (ceiling_of s)
