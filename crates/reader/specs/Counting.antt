-- What a call did is counted (rule F14).
-- Assumes nothing.
use Rattle.std.specs.Prelude.{ℕ, ◌+◌, length, Option, None, Some}
use Rattle.scan.specs.Feed.{Intake}
use Rattle.reader.specs.declared.Counts.{Counts}
use Rattle.reader.specs.declared.Run.{Run}
use Rattle.reader.specs.declared.State.{State}

-- F14: a block, or none
abbrev pub one : Option ℕ → ℕ
one None = 0
one (Some n) = 1

-- F14: the bytes taken, the block that stands, the bytes skipped
abbrev pub counted : Counts → Intake → Counts
counted c f =
    record { taken = c.taken + f.taken; blocks = c.blocks + one f.standing; skipped = c.skipped + length f.passed }

abbrev pub with_run : State → Run → State
with_run s r = record { run = r; in_force = s.in_force; waiting = s.waiting }
