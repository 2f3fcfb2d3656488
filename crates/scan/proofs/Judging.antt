-- What runs, cuts and the literal Feed ask of a judge of places, whatever lengths it allows.
-- Assumes nothing.
use mathlib.Core.Path.{◌≡◌}
use mathlib.Core.List.{List, [], ◌++◌}
use Prim.Native.Nat.{ℕ, ◌≤◌, ◌<◌}
use lib.ListN.{length}
use Rattle.frame.specs.declared.Reason.{Reason}
use Rattle.frame.specs.declared.Reason.TheVariants.{NoSync, LengthNotAllowed, CrcWrong, FewLeft, PastEnd}
use Rattle.frame.specs.declared.Verdict.{Verdict}
use Rattle.frame.specs.declared.Verdict.TheVariants.{NoFrame, Frame, Undecided}

-- n bytes, at least eight, are there
pub record There (n : ℕ) (v : List ℕ) : Type 0 where
  pub eight : 8 ≤ n
  pub within : n ≤ length v

-- a verdict that names a length names bytes that are there
abbrev pub FitsFor : List ℕ → Reason → Type 0
FitsFor v NoSync = Unit {0}
FitsFor v LengthNotAllowed = Unit {0}
FitsFor v (CrcWrong n) = There n v
FitsFor v FewLeft = Unit {0}
FitsFor v PastEnd = Unit {0}

abbrev pub Fits : List ℕ → Verdict → Type 0
Fits v (NoFrame r) = FitsFor v r
Fits v (Frame n) = There n v
Fits v Undecided = Unit {0}

-- a verdict needs no more bytes than these
abbrev pub need_for : Reason → ℕ
need_for NoSync = 8
need_for LengthNotAllowed = 8
need_for (CrcWrong n) = n
need_for FewLeft = 8
need_for PastEnd = 8

abbrev pub bytes_needed : Verdict → ℕ
bytes_needed (NoFrame r) = need_for r
bytes_needed (Frame n) = n
bytes_needed Undecided = 8

pub record Judging (judge : List ℕ → Verdict) : Type 0 where
  pub empty : judge [] ≡ Undecided
  pub fits : (v : List ℕ) → Fits v (judge v)
  -- bytes that follow do not change a verdict
  pub stays : (xs ys : List ℕ) → (judge xs ≡ Undecided → ⊥) → judge (xs ++ ys) ≡ judge xs
  -- where they bring one, fewer were there than it needs
  pub soon : (xs ys : List ℕ) → judge xs ≡ Undecided → (judge (xs ++ ys) ≡ Undecided → ⊥) → length xs < bytes_needed (judge (xs ++ ys))
