-- D1: on every input a call is refused by the rules and only so, and a refused call changes nothing. That every call answers and ends is
-- the language's: each function of the code is total, and each public call has no `requires`.
-- Assumes nothing.
use Rattle.std.specs.Prelude.{ℕ, ◌≤◌, ◌≡◌, true, List, [], length, drop, Some}
use Rattle.draft.specs.Draft.{Draft}
use Rattle.reader.specs.State.{sound}
use Rattle.demands.specs.World.{World, write, Call, look, told, part_of, step, end}
use Rattle.demands.specs.Sequence.{New}
use Rattle.demands.specs.Refusals.{Exactly, order}

-- C2: the buffers are long enough
pub record Long (w : World) : Type 0 where
  pub hold : 65536 ≤ length w.hold
  pub force : 8192 ≤ length w.force
  pub wait : 8192 ≤ length w.wait

pub record Demand1 : Type 0 where
  -- R20: every call on every input, each number exactly when it is due
  pub refused : (c : Call) (w : World) → Exactly (told (step c w).answer).refusal (order c w)
  -- R21: a refused call leaves state and buffers as they were
  pub keeps : (c : Call) (w : World) (n : ℕ) → (told (step c w).answer).refusal ≡ Some n → (step c w).world ≡ w
  -- R22: a part is empty where the call is refused
  pub empty : (c : Call) (w : World) (n : ℕ) → (told (step c w).answer).refusal ≡ Some n → part_of (step c w).answer ≡ []
  -- R21, W1: a refused Write gives its buffer back byte for byte
  pub unwritten : (d : Draft) (buffer : List ℕ) (w : World) (n : ℕ) → (told (step (look (write d buffer)) w).answer).refusal ≡ Some n
      → (told (step (look (write d buffer)) w).answer).buffer ≡ Some buffer
  -- W1: one that is not keeps the bytes behind the block, and the buffer as long as it was
  pub kept_behind : (d : Draft) (buffer after : List ℕ) (w : World) (n : ℕ) → (told (step (look (write d buffer)) w).answer).wrote ≡ Some n
      → (told (step (look (write d buffer)) w).answer).buffer ≡ Some after → (drop n after ≡ drop n buffer) × (length after ≡ length buffer)
  -- R1: no calls on a new reader lead to a state that it names, whatever the buffers
  pub sound : (w : World) (before : List Call) → New w → sound (end before w).state ≡ true
  -- R1: and with long enough buffers no call gets this refusal, whatever came before it
  pub never : (w : World) (before : List Call) (c : Call) → New w → Long w → (told (step c (end before w)).answer).refusal ≡ Some 1 → ⊥
