-- The places passed over, counted (rules F14, F18).
-- Assumes nothing.
use Rattle.std.specs.Prelude.{◌+◌, List, [], ◌∷◌}
use Rattle.frame.specs.declared.Reason.{Reason}
use Rattle.frame.specs.declared.Reason.TheVariants.{NoSync, LengthNotAllowed, CrcWrong, FewLeft, PastEnd}
use Rattle.causes.specs.declared.Passed.{Passed}

abbrev pub nothing_passed : Passed
nothing_passed = record { skipped = 0; few = 0; badlen = 0; past = 0; badcrc = 0 }

-- F14, F18: what one place adds, by its reason: one that carries the sync pair to one of the four counts, another to none
abbrev pub each : Reason → Passed
each NoSync = record { skipped = 1; few = 0; badlen = 0; past = 0; badcrc = 0 }
each FewLeft = record { skipped = 1; few = 1; badlen = 0; past = 0; badcrc = 0 }
each LengthNotAllowed = record { skipped = 1; few = 0; badlen = 1; past = 0; badcrc = 0 }
each PastEnd = record { skipped = 1; few = 0; badlen = 0; past = 1; badcrc = 0 }
each (CrcWrong n) = record { skipped = 1; few = 0; badlen = 0; past = 0; badcrc = 1 }

-- F14, F18: one more is passed, for a reason
abbrev pub count : Passed → Reason → Passed
count a r =
    record {
      skipped = a.skipped + (each r).skipped;
      few = a.few + (each r).few;
      badlen = a.badlen + (each r).badlen;
      past = a.past + (each r).past;
      badcrc = a.badcrc + (each r).badcrc;
    }

unfoldable pub count_all : Passed → List Reason → Passed
count_all a [] = a
count_all a (r ∷ rs) = count_all (count a r) rs

abbrev pub passed_of : List Reason → Passed
passed_of rs = count_all nothing_passed rs
