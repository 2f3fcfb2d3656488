-- What a ceiling gives (rule F17): how long a place can wait, and how much is held then.
-- Assumes nothing.
use Rattle.std.specs.Prelude.{ℕ, ◌≤◌, ◌<◌, ◌≡◌, true, List, length, None}
use Rattle.frame.specs.Frame.{ceiling_ok}
use Rattle.frame.specs.Judge.{judged}
use Rattle.frame.specs.declared.Verdict.TheVariants.{Undecided}
use Rattle.reader.specs.State.{ceiling_of}
use Rattle.reader.specs.Said.{took}
use Rattle.reader.specs.declared.Settings.{Settings}
use Rattle.demands.specs.World.{World, Call, feed, said, step, end}
use Rattle.demands.specs.Sequence.{Within, at_open}

pub record WaitsLess : Type 0 where
  -- a place is decided once as many bytes as the ceiling says are there from it on
  pub decided : (c : ℕ) (v : List ℕ) → ceiling_ok c ≡ true → c ≤ length v → judged c v ≡ Undecided → ⊥
  -- after every Feed that answers More fewer are held, whatever the state and the buffers
  pub held : (w : World) (piece : List ℕ) (n : ℕ) → (step (feed piece) w).answer ≡ said (took n None)
      → (step (feed piece) w).world.state.run.held < ceiling_of w.state
  -- in a run: fewer than the ceiling given at its Open
  pub run : (w : World) (before : List Call) (x : Settings) (mid : List Call) (piece : List ℕ) (n : ℕ) → Within w before x mid
      → (step (feed piece) (end mid (at_open w before x))).answer ≡ said (took n None)
      → (step (feed piece) (end mid (at_open w before x))).world.state.run.held < x.ceiling
