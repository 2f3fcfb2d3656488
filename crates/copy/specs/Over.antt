-- Bytes over the start of a buffer (rule C4).
-- Assumes nothing.
use Rattle.std.specs.Prelude.{List, ◌++◌, ℕ, length, drop}

-- C4: bytes over the start of a buffer, and behind them what it had
abbrev pub over : List ℕ → List ℕ → List ℕ
over xs buffer = xs ++ drop (length xs) buffer
