-- Working definitions for the code: what a call did is counted, the run goes on, and a block is reported, by the numbers that
-- `feed` gives. No contract of a call cites them; that they come to what the calls' definitions say is proved where the calls are.
-- Assumes nothing.
use Rattle.std.specs.Prelude.{ℕ, zero, suc, ◌+◌, List, Option, None, Some}
use Rattle.wire.specs.Little.{little_at}
use Rattle.frame.specs.Frame.{number_of, revision_of}
use Rattle.feed.specs.declared.HoldNumbers.{HoldNumbers}
use Rattle.reader.specs.Said.{Report}
use Rattle.reader.specs.declared.Phase.{Phase}
use Rattle.reader.specs.declared.Phase.TheVariants.{Closed, Finishing}
use Rattle.reader.specs.declared.Counts.{Counts}
use Rattle.reader.specs.declared.Run.{Run}

-- 1 for a block of so many bytes; a block has at least eight bytes, so 0 says none
abbrev pub one_by : ℕ → ℕ
one_by zero = 0
one_by (suc n) = 1

abbrev pub counted_by : Counts → HoldNumbers → Counts
counted_by c f =
    record { taken = c.taken + f.taken; blocks = c.blocks + one_by f.standing; skipped = c.skipped + f.passed.skipped }

-- the run goes on in a phase, by the same settings
abbrev pub run_by : Phase → Run → HoldNumbers → Run
run_by x r f = record { phase = x; held = f.held; standing = f.standing; counts = counted_by r.counts f; settings = r.settings }

-- the block at the front of the hold
abbrev pub report_at : List ℕ → ℕ → ℕ → Report
report_at hold p n =
    record { place = p; number = number_of (little_at 2 hold 4); revision = revision_of (little_at 2 hold 4); size = n }

-- the block at the front of the hold by its length, or none by 0
abbrev pub standing_by : ℕ → List ℕ → ℕ → Option Report
standing_by zero hold p = None
standing_by (suc n) hold p = Some (report_at hold p (suc n))

-- the phase after Finish, by the length of the block that stands; 0 says none, for a block has at least eight bytes
abbrev pub phase_by : ℕ → Phase
phase_by zero = Closed
phase_by (suc n) = Finishing
