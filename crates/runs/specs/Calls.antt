-- What Feed, Finish and Bytes answer and leave (rules C6 to C9).
-- Assumes nothing.
use Rattle.std.specs.Prelude.{ℕ, ◌-◌, List, length, take, Option, None, Some}
use Rattle.frame.specs.Frame.{id_at, number_of, revision_of}
use Rattle.frame.specs.Judge.{judged_last}
use Rattle.scan.specs.Settle.{settle}
use Rattle.scan.specs.Feed.{Intake, feed_lit, stop, size}
use Rattle.feed.specs.Hold.{rest_of, hold_of}
use Rattle.reader.specs.State.{limit, ceiling_of}
use Rattle.reader.specs.Said.{Report, Said, took, found, ended}
use Rattle.reader.specs.Counting.{counted, with_run}
use Rattle.reader.specs.Outcome.{Outcome, unless, part_unless}
use Rattle.reader.specs.declared.Phase.{Phase}
use Rattle.reader.specs.declared.Phase.TheVariants as phase
use Rattle.reader.specs.declared.Run.{Run}
use Rattle.reader.specs.declared.State.{State}
use Rattle.runs.specs.Refusals.{feed_refusal, finish_refusal, bytes_refusal}

-- ---- Feed and Finish

-- C7: the place of the first held byte
abbrev pub front : Run → ℕ
front r = r.counts.taken - r.held

-- C7: a block of n bytes at the front of v, at the place p
abbrev pub reported : ℕ → ℕ → List ℕ → Report
reported p n v = record { place = p; number = number_of (id_at (take n v) 0); revision = revision_of (id_at (take n v) 0); size = n }

abbrev pub report_if : Option ℕ → ℕ → List ℕ → Option Report
report_if None p v = None
report_if (Some n) p v = Some (reported p n v)

-- the run goes on in a phase by what a call did: how many bytes are held, how many of these are the block, and the counts; and by the
-- same settings (C17)
abbrev pub run_on : Phase → Run → Intake → Run
run_on x r f =
    record { phase = x; held = length f.held; standing = size f.standing; counts = counted r.counts f; settings = r.settings }

-- C7: what Feed answers and leaves, by its intake
abbrev pub feeding_by : Intake → State → List ℕ → Outcome
feeding_by f s hold =
    record {
      said = took f.taken (report_if f.standing (front (run_on phase.Feeding s.run f)) f.held);
      state = with_run s (run_on phase.Feeding s.run f);
      lent = hold_of f hold;
    }

-- C6: the intake, by the run's ceiling; the room is what the limit leaves
unfoldable pub feeding_of : State → List ℕ → List ℕ → Intake
feeding_of s hold piece = feed_lit (ceiling_of s) (rest_of hold s.run.held s.run.standing) piece (limit - s.run.counts.taken)

-- C6, C7, R21: Feed
unfoldable pub feed_of : State → List ℕ → List ℕ → Outcome
feed_of s hold piece = unless (feed_refusal s hold piece) s hold (feeding_by (feeding_of s hold piece) s hold)

-- C8: the run is fed no more, and End closes it
abbrev pub phase_after : Option ℕ → Phase
phase_after None = phase.Closed
phase_after (Some n) = phase.Finishing

-- C8: a block, or End
abbrev pub finish_said : Option ℕ → Run → List ℕ → Said
finish_said None r v = ended r.counts
finish_said (Some n) r v = found (reported (front r) n v)

-- C8: what Finish answers and leaves
abbrev pub finishing_by : Intake → State → List ℕ → Outcome
finishing_by f s hold =
    let r = run_on (phase_after f.standing) s.run f in
    record { said = finish_said f.standing r f.held; state = with_run s r; lent = hold_of f hold }

-- C8, F13: no byte is taken, and no place waits
unfoldable pub finishing_of : State → List ℕ → Intake
finishing_of s hold = stop (settle (judged_last (ceiling_of s)) (rest_of hold s.run.held s.run.standing))

-- C8, R21: Finish
unfoldable pub finish_of : State → List ℕ → Outcome
finish_of s hold = unless (finish_refusal s hold) s hold (finishing_by (finishing_of s hold) s hold)

-- ---- Bytes

-- C9, R22: the standing block begins the hold (C4)
unfoldable pub bytes_of : State → List ℕ → List ℕ
bytes_of s hold = part_unless (bytes_refusal s hold) (take s.run.standing hold)
