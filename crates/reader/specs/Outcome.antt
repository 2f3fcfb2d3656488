-- What a call answers and leaves, refusals included (rules D4, R21, R22): the answer, the new state and every byte of the buffer
-- it may write; or a part.
-- Assumes nothing.
use Rattle.std.specs.Prelude.{◌≡◌, ℕ, List, [], Option, None, Some}
use Rattle.reader.specs.Said.{Said, refused}
use Rattle.reader.specs.declared.State.{State}

-- D4: the answer, the new state, and the buffer that the call may write, of which there is one at most (C2)
pub record Outcome : Type 0 where
  pub said : Said
  pub state : State
  pub lent : List ℕ

abbrev pub outcome : Said → State → List ℕ → Outcome
outcome a s l = record { said = a; state = s; lent = l }

-- R21: `done`, unless the call is refused
abbrev pub unless : Option ℕ → State → List ℕ → Outcome → Outcome
unless (Some n) s lent done = outcome (refused n) s lent
unless None s lent done = done

-- R22: `part`, unless the call is refused
abbrev pub part_unless : Option ℕ → List ℕ → List ℕ
part_unless (Some n) part = []
part_unless None part = part

-- R21, R22: whatever a call would have done, a refused one keeps the state and the buffer, and hands back no byte
pub record RefusalKeeps : Type 0 where
  pub all : (n : ℕ) (s : State) (lent : List ℕ) (done : Outcome) → unless (Some n) s lent done ≡ outcome (refused n) s lent
  pub empty : (n : ℕ) (part : List ℕ) → part_unless (Some n) part ≡ []
