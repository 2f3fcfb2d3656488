-- What holds of a word's key, as a statement: it is the `ensures` of a function with no code, so that a check names it.
-- Assumes nothing.
use Rattle.std.specs.Prelude.{ℕ, ◌≤◌, ◌<◌, ◌≡◌, List, length, get_or}
use Rattle.words.specs.Words.{key_of}

-- one to eight bytes, none of them zero
pub record Keyed (w : List ℕ) : Type 0 where
  pub any : 0 < length w
  pub few : length w ≤ 8
  pub nonzero : (j : ℕ) → j < length w → 0 < get_or w j 0

-- words of bytes that have the same key, not 0, are the same word; and a key is not 0 exactly for the words that are to have one
pub record KeysApart : Type 0 where
  pub apart : (v w : List ℕ) → ((j : ℕ) → get_or v j 0 < 256) → ((j : ℕ) → get_or w j 0 < 256) → 0 < key_of v → key_of v ≡ key_of w → v ≡ w
  pub has : (w : List ℕ) → Keyed w → 0 < key_of w
  pub only : (w : List ℕ) → 0 < key_of w → Keyed w
