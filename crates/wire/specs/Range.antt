-- Of F1's numbers: k bytes make one below 256 to the k, whatever the width.
-- Assumes nothing.
use Rattle.std.specs.Prelude.{ℕ, ◌^◌, ◌<◌, List, get_or}
use Rattle.wire.specs.Little.{little_at}

-- these are bytes
abbrev pub Bytes : List ℕ → Type 0
Bytes s = (j : ℕ) → get_or s j 0 < 256

abbrev pub InRange : Type 0
InRange = (k : ℕ) (s : List ℕ) (i : ℕ) → Bytes s → little_at k s i < 256 ^ k
