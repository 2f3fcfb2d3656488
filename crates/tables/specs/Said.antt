-- How the answers of Open, Stage and Withdraw are read (rule D9).
-- Assumes nothing.
use Rattle.std.specs.Prelude.{ℕ, Bool, Result}
use Rattle.refusal.specs.declared.Refusal.{Refusal}
use Rattle.reader.specs.Said.{Said, said_of, version, waited}

-- C5, C10: Open's and Stage's, a table's version
abbrev pub said_version : Result ℕ Refusal → Said
said_version = said_of version

-- C11: whether a table waited
abbrev pub said_withdrawn : Result Bool Refusal → Said
said_withdrawn = said_of waited
