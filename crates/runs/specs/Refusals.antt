-- The refusals of Feed, Finish and Bytes, in their order (rule R20).
-- Assumes nothing.
use Rattle.std.specs.Prelude.{ℕ, Bool, true, false, not, ◌&&◌, ◌||◌, List, length, ltb, eqb, Option, None}
use Rattle.frame.specs.Judge.{judged}
use Rattle.scan.specs.Settle.{settle}
use Rattle.feed.specs.Hold.{rest_of}
pub use Rattle.table.specs.Lists.{is_some}
use Rattle.reader.specs.State.{limit, ceiling_of, sound}
use Rattle.reader.specs.Refusals.{need, is_closed, long_hold}
use Rattle.reader.specs.declared.Phase.{Phase}
use Rattle.reader.specs.declared.Phase.TheVariants.{Closed, Feeding, Finishing}
use Rattle.reader.specs.declared.State.{State}

-- R2: a run is open, and its feeding not ended
abbrev pub is_feeding : Phase → Bool
is_feeding Closed = false
is_feeding Feeding = true
is_feeding Finishing = false

-- R20: 1, 2, 3; what R3 asks of the held bytes, it asks without the standing block and with the run's ceiling
unfoldable pub feed_refusal : State → List ℕ → List ℕ → Option ℕ
feed_refusal s hold piece =
    need (sound s && long_hold hold) 1
    (need (is_feeding s.run.phase) 2
    (need (ltb s.run.counts.taken limit || (eqb (length piece) 0 || is_some (settle (judged (ceiling_of s)) (rest_of hold s.run.held s.run.standing)).standing)) 3 None))

-- R20: 1, 2
unfoldable pub finish_refusal : State → List ℕ → Option ℕ
finish_refusal s hold = need (sound s && long_hold hold) 1 (need (not (is_closed s.run.phase)) 2 None)

-- R20: 1
unfoldable pub bytes_refusal : State → List ℕ → Option ℕ
bytes_refusal s hold = need (sound s && long_hold hold) 1 None
