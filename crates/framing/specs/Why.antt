-- Why each skipped place of a whole run is no frame (rule F18): the standard that the counts by cause are held to. `has_cause` and
-- `reason_at` cite the tests of a frame alone; that the two agree, and with the judges, is proved.
-- Assumes nothing.
use Rattle.std.specs.Prelude.{ℕ, ◌+◌, ◌<◌, ◌≡◌, Bool, true, not, cond, ◌&&◌, List, [], ◌∷◌, ◌++◌, length, drop, ltb, Option, None, Some}
use Rattle.frame.specs.Frame.{sync_at, length_at, allowed, ends_within, crc_right, frame_at}
use Rattle.frame.specs.Judge.{judged, judged_last}
use Rattle.frame.specs.declared.Reason.{Reason}
use Rattle.frame.specs.declared.Reason.TheVariants.{NoSync, LengthNotAllowed, CrcWrong, FewLeft, PastEnd}
use Rattle.frame.specs.declared.Verdict.TheVariants.{NoFrame}
use Rattle.causes.specs.Causes.{Cause, few, badlen, past, badcrc, says}
use Rattle.framing.specs.ReadRun.{read_run}

-- F18: the first of the tests, in this order, that the place p of the whole run w fails; none where it fails no test
unfoldable pub reason_at : ℕ → List ℕ → ℕ → Option Reason
reason_at c w p =
    cond (not (sync_at w p)) (Some NoSync)
    (cond (ltb (length w) (p + 8)) (Some FewLeft)
    (cond (not (allowed c (length_at w p))) (Some LengthNotAllowed)
    (cond (not (ends_within w p)) (Some PastEnd)
    (cond (not (crc_right w p)) (Some (CrcWrong (length_at w p))) None))))

-- F18: whether the place p of the whole run w has a cause: each test is asked where those before it are passed
unfoldable pub has_cause : Cause → ℕ → List ℕ → ℕ → Bool
has_cause few c w p = sync_at w p && ltb (length w) (p + 8)
has_cause badlen c w p = sync_at w p && not (ltb (length w) (p + 8)) && not (allowed c (length_at w p))
has_cause past c w p = sync_at w p && not (ltb (length w) (p + 8)) && allowed c (length_at w p) && not (ends_within w p)
has_cause badcrc c w p =
    sync_at w p && not (ltb (length w) (p + 8)) && allowed c (length_at w p) && ends_within w p && not (crc_right w p)

-- F18: how many of the places have a cause
unfoldable pub caused_at : Cause → ℕ → List ℕ → List ℕ → ℕ
caused_at k c w [] = 0
caused_at k c w (p ∷ ps) = cond (has_cause k c w p) 1 0 + caused_at k c w ps

-- F18: how many of the run's skipped places (F11) have it
abbrev pub caused : Cause → ℕ → List ℕ → ℕ
caused k c w = caused_at k c w (read_run c 0 w).skipped

-- F18: how many of the places carry the sync pair
unfoldable pub pairs_at : List ℕ → List ℕ → ℕ
pairs_at w [] = 0
pairs_at w (p ∷ ps) = cond (sync_at w p) 1 0 + pairs_at w ps

-- F8, F18: a frame has no reason, and each other place has one: that of the judge, at the run's end (F13), and while more may come (F12)
-- whatever then follows; and the place has the cause that the walk counts for it
pub record WhyRight (c : ℕ) : Type 0 where
  pub frame : (w : List ℕ) (p : ℕ) → p < length w → frame_at c w p ≡ true → reason_at c w p ≡ None
  pub none_left : (w : List ℕ) (p : ℕ) → p < length w → reason_at c w p ≡ None → frame_at c w p ≡ true
  pub last : (w : List ℕ) (p : ℕ) (r : Reason) → p < length w → judged_last c (drop p w) ≡ NoFrame r → reason_at c w p ≡ Some r
  pub fed : (w more : List ℕ) (p : ℕ) (r : Reason) → p < length w → judged c (drop p w) ≡ NoFrame r → reason_at c (w ++ more) p ≡ Some r
  pub cause : (k : Cause) (w : List ℕ) (p : ℕ) (r : Reason) → reason_at c w p ≡ Some r → cond (has_cause k c w p) 1 0 ≡ says k r

-- F18: the four counts of a run add up to the number of its skipped places that carry the pair
abbrev pub CausesSum : ℕ → Type 0
CausesSum c =
    (w : List ℕ) → caused few c w + caused badlen c w + caused past c w + caused badcrc c w ≡ pairs_at w (read_run c 0 w).skipped
