-- A whole run read from the left with a ceiling (rules F11, F16): the standard that everything else is held to. It cites the frame
-- test alone.
-- Assumes nothing.
use Rattle.std.specs.Prelude.{ℕ, zero, suc, ◌+◌, ◌-◌, Bool, true, false, List, [], ◌∷◌, take}
use Rattle.frame.specs.Frame.{id_at, length_at, number_of, revision_of, frame_at}

-- C7: what is reported of a block; and its bytes
pub record ReadBlock : Type 0 where
  pub place : ℕ
  pub number : ℕ
  pub revision : ℕ
  pub size : ℕ
  pub bytes : List ℕ

-- C7: the block of n bytes at the front of v, which is the run from the place p on
unfoldable pub block_at : ℕ → ℕ → List ℕ → ReadBlock
block_at p n v =
    record { place = p; number = number_of (id_at (take n v) 0); revision = revision_of (id_at (take n v) 0); size = n; bytes = take n v }

-- F11: the blocks, and the skipped places
pub record Reading : Type 0 where
  pub blocks : List ReadBlock
  pub skipped : List ℕ

abbrev pub nothing_read : Reading
nothing_read = record { blocks = []; skipped = [] }

abbrev pub block_then : ReadBlock → Reading → Reading
block_then b r = record { blocks = b ∷ r.blocks; skipped = r.skipped }

abbrev pub skip_then : ℕ → Reading → Reading
skip_then p r = record { blocks = r.blocks; skipped = p ∷ r.skipped }

-- F11: at one place. v is the run from the place p on; `go k` goes on at the next byte, where k bytes still belong to the block
abbrev pub read_by : Bool → ℕ → List ℕ → (ℕ → Reading) → Reading
read_by true p v go = block_then (block_at p (length_at v 0) v) (go (length_at v 0 - 1))
read_by false p v go = skip_then p (go 0)

-- F11: with the ceiling c, from the place p on, where the first k bytes belong to the block before
unfoldable pub read_from : ℕ → ℕ → ℕ → List ℕ → Reading
read_from c p k [] = nothing_read
read_from c p (suc k) (b ∷ bs) = read_from c (p + 1) k bs
read_from c p zero (b ∷ bs) = read_by (frame_at c (b ∷ bs) 0) p (b ∷ bs) (λ k. read_from c (p + 1) k bs)

-- F11: a run read with the ceiling c, whose first place is p and not always 0, so that parts of runs can be spoken of
unfoldable pub read_run : ℕ → ℕ → List ℕ → Reading
read_run c p w = read_from c p 0 w
