-- Progress: More is answered only with all taken that may be (rule C6), and Finish comes to End (C8). That More is right, `Demand2` says;
-- that a run opens and is then being fed, `History` says.
-- Assumes nothing.
use Rattle.std.specs.Prelude.{ℕ, zero, suc, ◌≤◌, ◌≡◌, List, ◌⊎◌, length, None, IsSome}
use Rattle.reader.specs.State.{limit}
use Rattle.reader.specs.Said.{took}
use Rattle.reader.specs.declared.Settings.{Settings}
use Rattle.demands.specs.World.{World, Call, feed, finish, said, told, step, end}
use Rattle.demands.specs.Sequence.{Within, at_open}

-- Finish answers Block n times, and then End
unfoldable pub EndsAfter : ℕ → World → Type 0
EndsAfter zero w = IsSome (told (step finish w).answer).end
EndsAfter (suc n) w = IsSome (told (step finish w).answer).block × EndsAfter n (step finish w).world

pub record Progress : Type 0 where
  -- More is answered only with the whole piece taken or the run at its limit; whatever the state and the buffers
  pub more : (w : World) (piece : List ℕ) (n : ℕ) → (step (feed piece) w).answer ≡ said (took n None)
      → (n ≡ length piece) ⊎ ((step (feed piece) w).world.state.run.counts.taken ≡ limit)
  -- a run's Finish calls reach End after at most as many blocks as there are held bytes
  pub ends : (w : World) (before : List Call) (x : Settings) (mid : List Call) → Within w before x mid → 65536 ≤ length (end mid (at_open w before x)).hold
      → (n : ℕ) × ((n ≤ (end mid (at_open w before x)).state.run.held) × EndsAfter n (end mid (at_open w before x)))
