-- Feed takes no more than it needs (rule C6): a shorter front of its piece is taken whole, and gives no block.
-- Assumes nothing.
use Rattle.std.specs.Prelude.{ℕ, ◌<◌, ◌≡◌, List, take, Option, None}
use Rattle.reader.specs.Said.{Report, took}
use Rattle.demands.specs.World.{World, feed, said, step}

-- whatever the state and the buffers: where a Feed takes n bytes, with Block or More, it answers More to each front of its piece that
-- is shorter than n
abbrev pub TakesNoMore : Type 0
TakesNoMore =
    (w : World) (piece : List ℕ) (n m : ℕ) (r : Option Report) → (step (feed piece) w).answer ≡ said (took n r) → m < n
    → (step (feed (take m piece)) w).answer ≡ said (took m None)
