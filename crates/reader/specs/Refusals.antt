-- What the refusals of several calls have in common: numbers in a row (rule R20), a closed run (R2), the lengths of lent buffers
-- (R1), a table's check (R4).
-- Assumes nothing.
use Rattle.std.specs.Prelude.{ℕ, Bool, true, false, List, length, leb, Option, None, Some}
use Rattle.table.specs.Rules.{table_ok}
use Rattle.reader.specs.declared.Phase.{Phase}
use Rattle.reader.specs.declared.Phase.TheVariants.{Closed, Feeding, Finishing}

-- R20: n unless the test holds, else what comes after it in the order
abbrev pub need : Bool → ℕ → Option ℕ → Option ℕ
need true n rest = rest
need false n rest = Some n

-- R2: no run is open
abbrev pub is_closed : Phase → Bool
is_closed Closed = true
is_closed Feeding = false
is_closed Finishing = false

-- C2, R1: a lent buffer is long enough
abbrev pub long_hold : List ℕ → Bool
long_hold hold = leb 65536 (length hold)

abbrev pub long_store : List ℕ → Bool
long_store store = leb 8192 (length store)

-- R4: 4 where a table rule is broken
abbrev pub table_refusal : List ℕ → Option ℕ
table_refusal t = need (table_ok t) 4 None
