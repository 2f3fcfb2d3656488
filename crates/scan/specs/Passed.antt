-- The bytes passed, counted (rule F14), and what a scan comes to.
-- Assumes nothing.
use Rattle.std.specs.Prelude.{◌+◌, List, [], ◌∷◌}
use Rattle.scan.specs.Feed.{Intake, size}
use Rattle.frame.specs.declared.Reason.{Reason}
use Rattle.scan.specs.declared.Passed.{Passed}
use Rattle.scan.specs.declared.Scanned.{Scanned}

abbrev pub nothing_passed : Passed
nothing_passed = record { skipped = 0 }

-- F14: one more is passed, for a reason
abbrev pub count : Passed → Reason → Passed
count a r = record { skipped = a.skipped + 1 }

unfoldable pub count_all : Passed → List Reason → Passed
count_all a [] = a
count_all a (r ∷ rs) = count_all (count a r) rs

abbrev pub passed_of : List Reason → Passed
passed_of rs = count_all nothing_passed rs

abbrev pub scanned_of : Intake → Scanned
scanned_of f = record { taken = f.taken; passed = passed_of f.passed; block = size f.standing }
