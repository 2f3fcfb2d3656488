-- Numbers in a list of bytes (rule F1).
-- Assumes nothing.
use Rattle.std.specs.Prelude.{ℕ, zero, suc, ◌+◌, ◌*◌, List, get_or}

-- F1: the number of k bytes at i
unfoldable pub little_at : ℕ → List ℕ → ℕ → ℕ
little_at zero s i = 0
little_at (suc k) s i = get_or s i 0 + 256 * little_at k s (i + 1)
