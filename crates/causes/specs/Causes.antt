-- The four causes for which places that carry the sync pair are skipped (rule F18), and how many of a list of reasons each counts.
-- Assumes nothing.
use Rattle.std.specs.Prelude.{ℕ, ◌+◌, List, [], ◌∷◌}
use Rattle.frame.specs.declared.Reason.{Reason}
use Rattle.causes.specs.Passed.{each}
use Rattle.causes.specs.declared.Passed.{Passed}

-- F18: by the names of their counts
pub data Cause : Type 0 where
  few : Cause
  badlen : Cause
  past : Cause
  badcrc : Cause

-- the count of a cause
abbrev pub passed_for : Cause → Passed → ℕ
passed_for few a = a.few
passed_for badlen a = a.badlen
passed_for past a = a.past
passed_for badcrc a = a.badcrc

-- F18: what one place adds to the count of a cause: 1 for the reason that it counts, else 0
abbrev pub says : Cause → Reason → ℕ
says k r = passed_for k (each r)

-- F18: how many of the reasons a cause counts
unfoldable pub how_many : Cause → List Reason → ℕ
how_many k [] = 0
how_many k (r ∷ rs) = says k r + how_many k rs
