-- What the check says: the version, or refusal 4 (rules C10, R4).
-- Assumes nothing.
use Rattle.std.specs.Prelude.{cond, List, ℕ, Option, Some, None}
use Rattle.table.specs.Decode.{decode}
use Rattle.table.specs.Rules.{table_ok}

pub data CheckSaid : Type 0 where
  check_version : ℕ → CheckSaid
  check_refused : ℕ → CheckSaid

-- D9: the number and value of each case of the code's answer
abbrev pub check_says : Option ℕ → CheckSaid
check_says (Some v) = check_version v
check_says None = check_refused 4

-- C10, R4: what is to be told of any bytes
unfoldable pub check_of : List ℕ → CheckSaid
check_of t = cond (table_ok t) (check_version (decode t).version) (check_refused 4)
