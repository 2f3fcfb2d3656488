-- What Write is given by C (rules W1, W2), and its answer as C has it.
-- Assumes nothing.
use Rattle.std.specs.Prelude.{ℕ}
use Rattle.entry.specs.declared.Entry.{Entry}
use Rattle.draft.specs.declared.Head.{Head}
use Rattle.writer.specs.Write.{WriteSaid, wrote, write_refused}
use Rattle.cform.specs.declared.CValue.{CValue}
use Rattle.cform.specs.declared.CWritten.{CWritten}

-- W2: a kind and 64 bits
abbrev pub entry_of : CValue → Entry
entry_of v = record { kind = v.kind; bits = v.bits }

-- W1: number, revision, TOW, WNc
abbrev pub head_of : ℕ → ℕ → CValue → CValue → Head
head_of number revision tow wnc = record { number = number; revision = revision; tow = entry_of tow; wnc = entry_of wnc }

-- W1: the length of the block, or the refusal's number and 0
abbrev pub written_c : WriteSaid → CWritten
written_c (wrote n) = record { refusal = 0; length = n }
written_c (write_refused n) = record { refusal = n; length = 0 }
