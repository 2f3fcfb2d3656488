-- What Write is given with plain numbers, and its answer as one.
-- Assumes nothing.
use Rattle.std.specs.Prelude.{ℕ}
use Rattle.draft.specs.declared.Head.{Head}
use Rattle.writer.specs.Write.{WriteSaid, wrote, write_refused}

-- W1: TOW and WNc as unsigned numbers
abbrev pub plain_head : ℕ → ℕ → ℕ → ℕ → Head
plain_head number revision tow wnc =
    record { number = number; revision = revision; tow = record { kind = 1; bits = tow }; wnc = record { kind = 1; bits = wnc } }

-- the length of the block, 0 where there is none
abbrev pub length_said : WriteSaid → ℕ
length_said (wrote n) = n
length_said (write_refused n) = 0
