-- What stands at a place, as far as the bytes from there on show, under a ceiling (rule F16): while more may come (F12), and at
-- the run's end (F13).
-- Assumes nothing.
use Rattle.std.specs.Prelude.{ℕ, List, not, cond, length, get_or, ltb, eqb}
use Rattle.frame.specs.Frame.{length_at, allowed, crc_right}
use Rattle.frame.specs.declared.Reason.TheVariants.{NoSync, LengthNotAllowed, CrcWrong, FewLeft, PastEnd}
use Rattle.frame.specs.declared.Verdict.{Verdict}
use Rattle.frame.specs.declared.Verdict.TheVariants.{NoFrame, Frame, Undecided}

-- F12: what is known of the place, by F8 once it is decided; c is the ceiling, v the run from the place on
unfoldable pub judged : ℕ → List ℕ → Verdict
judged c v =
    cond (eqb (length v) 0) Undecided
    (cond (not (eqb (get_or v 0 0) 0x24)) (NoFrame NoSync)
    (cond (eqb (length v) 1) Undecided
    (cond (not (eqb (get_or v 1 0) 0x40)) (NoFrame NoSync)
    (cond (ltb (length v) 8) Undecided
    (cond (not (allowed c (length_at v 0))) (NoFrame LengthNotAllowed)
    (cond (ltb (length v) (length_at v 0)) Undecided
    (cond (crc_right v 0) (Frame (length_at v 0)) (NoFrame (CrcWrong (length_at v 0))))))))))

-- F13: what was undecided is no frame, and why; a last byte alone is no sync pair
abbrev pub last_by : Verdict → List ℕ → Verdict
last_by (NoFrame r) v = NoFrame r
last_by (Frame n) v = Frame n
last_by Undecided v = NoFrame (cond (ltb (length v) 2) NoSync (cond (ltb (length v) 8) FewLeft PastEnd))

-- F13: v is the rest of the run
unfoldable pub judged_last : ℕ → List ℕ → Verdict
judged_last c v = last_by (judged c v) v
