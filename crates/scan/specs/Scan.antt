-- Working definitions: the scan of a part of the run, and the places that it passes at once. Only inner functions cite them.
-- Assumes nothing.
use Rattle.std.specs.Prelude.{◌≡◌, ℕ, ◌+◌, ◌≤◌, ◌<◌, max, List, [], ◌∷◌, ◌++◌, length, get_or, Option, None, Some}
use Rattle.scan.specs.Settle.{Settled}
use Rattle.scan.specs.Passed.{count_all}
use Rattle.frame.specs.declared.Reason.{Reason}
use Rattle.frame.specs.declared.Reason.TheVariants.{NoSync, LengthNotAllowed, CrcWrong, FewLeft, PastEnd}
use Rattle.frame.specs.declared.Verdict.{Verdict}
use Rattle.scan.specs.declared.Passed.{Passed}
use Rattle.scan.specs.declared.Stretch.{Stretch}
use Rattle.scan.specs.declared.Stretch.TheVariants.{Block, Waits, Through}

-- ---- a part of the run

-- a judge of the places of a part, with `rest` behind it
abbrev pub with_rest : (List ℕ → Verdict) → List ℕ → List ℕ → Verdict
with_rest judge rest v = judge (v ++ rest)

-- how many bytes had to be taken to pass the place p, where m had to be before. Only a wrong CRC raises the mark: a block has at
-- least the eight bytes that another verdict rests on
abbrev pub raised : Reason → ℕ → ℕ → ℕ
raised NoSync p m = m
raised LengthNotAllowed p m = m
raised (CrcWrong n) p m = max m (p + n)
raised FewLeft p m = m
raised PastEnd p m = m

unfoldable pub needed : ℕ → ℕ → List Reason → ℕ
needed p m [] = m
needed p m (r ∷ rs) = needed (p + 1) (raised r p m) rs

abbrev pub stretch_by : Option ℕ → List ℕ → Passed → ℕ → Stretch
stretch_by (Some n) v a m = Block a n (max m (a.skipped + n))
stretch_by None (b ∷ bs) a m = Waits a
stretch_by None [] a m = Through a m

-- a part settled, where a was passed before and m bytes had to be taken
abbrev pub stretch_of : Settled → Passed → ℕ → Stretch
stretch_of s a m = stretch_by s.standing s.rest (count_all a s.passed) (needed a.skipped m s.passed)

-- ---- places where no frame can start

-- from i up to r no first sync byte stands
pub record NoDollar (s : List ℕ) (i r : ℕ) : Type 0 where
  pub from : i ≤ r
  pub within : r ≤ length s
  pub none : (k : ℕ) → i ≤ k → k < r → get_or s k 0 ≡ 0x24 → ⊥

-- from i up to r no first sync byte stands with its second behind it, or with nothing behind it
pub record NoStart (s : List ℕ) (i r : ℕ) : Type 0 where
  pub from : i ≤ r
  pub within : r ≤ length s
  pub none : (k : ℕ) → i ≤ k → k < r → get_or s k 0 ≡ 0x24 → (k + 1 < length s) × (get_or s (k + 1) 0 ≡ 0x40 → ⊥)
