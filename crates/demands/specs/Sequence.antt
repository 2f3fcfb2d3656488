-- Calls on a new reader, and a run among them: what its calls took and reported.
-- Assumes nothing.
use Rattle.std.specs.Prelude.{ℕ, ◌≡◌, List, [], ◌∷◌, ◌++◌, take, Option, None, Some, unwrap_or, IsSome}
use Rattle.framing.specs.ReadRun.{ReadBlock}
use Rattle.reader.specs.State.{new_state}
use Rattle.reader.specs.Said.{Report}
use Rattle.reader.specs.declared.Settings.{Settings}
use Rattle.demands.specs.World.{World, bytes, Call, open_run, feed, finish, table, look, Reply, told, part_of, step, end}

-- C15: a new reader, with any three buffers, short ones too
abbrev pub New : World → Type 0
New w = w.state ≡ new_state

-- the piece that a call is given: only Feed has one
abbrev pub piece_of : Call → List ℕ
piece_of (open_run x) = []
piece_of (feed piece) = piece
piece_of finish = []
piece_of (table t) = []
piece_of (look l) = []

-- no call answers End
unfoldable pub NoEnd : List Call → World → Type 0
NoEnd [] w = Unit {0}
NoEnd (c ∷ cs) w = ((told (step c w).answer).end ≡ None) × NoEnd cs (step c w).world

-- the world in which a run stands that was opened after `before`, with the settings x
abbrev pub at_open : World → List Call → Settings → World
at_open w before x = (step (open_run x) (end before w)).world

-- a moment of a run: on a new reader, Open with x answered a version after `before`, and then no call of `mid` answered End
pub record Within (w : World) (before : List Call) (x : Settings) (mid : List Call) : Type 0 where
  pub new : New w
  pub opens : IsSome (told (step (open_run x) (end before w)).answer).version
  pub no_end : NoEnd mid (at_open w before x)

-- C8: the Finish that follows `mid` closes the run
abbrev pub Closes : World → List Call → Settings → List Call → Type 0
Closes w before x mid = IsSome (told (step finish (end mid (at_open w before x))).answer).end

-- the bytes of its piece that a call took
abbrev pub took_of : Call → Reply → List ℕ
took_of c a = take (unwrap_or (told a).taken 0) (piece_of c)

-- a run's bytes: all that Feeds took, in their order
unfoldable pub taken : List Call → World → List ℕ
taken [] w = []
taken (c ∷ cs) w = took_of c (step c w).answer ++ taken cs (step c w).world

-- a report with the bytes of its block
abbrev pub with_bytes : Report → List ℕ → ReadBlock
with_bytes r b = record { place = r.place; number = r.number; revision = r.revision; size = r.size; bytes = b }

-- C4: a reported block stands at the front of the hold
abbrev pub in_hold : Option Report → World → List ReadBlock
in_hold None w = []
in_hold (Some r) w = with_bytes r (take r.size w.hold) ∷ []

-- C9: what Bytes then shows
abbrev pub shown : Option Report → World → List ReadBlock
shown None w = []
shown (Some r) w = with_bytes r (part_of (step (look bytes) w).answer) ∷ []

-- all blocks that calls reported, in their order
unfoldable pub blocks : List Call → World → List ReadBlock
blocks [] w = []
blocks (c ∷ cs) w = in_hold (told (step c w).answer).block (step c w).world ++ blocks cs (step c w).world

unfoldable pub shown_blocks : List Call → World → List ReadBlock
shown_blocks [] w = []
shown_blocks (c ∷ cs) w = shown (told (step c w).answer).block (step c w).world ++ shown_blocks cs (step c w).world
