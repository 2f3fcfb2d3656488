-- What a call leaves: its numbers, and every byte of the hold (rule C4).
-- Assumes nothing.
use Rattle.std.specs.Prelude.{ℕ, ◌-◌, ◌≤◌, ◌≡◌, List, length, take, drop}
pub use Rattle.copy.specs.Over.{over}
use Rattle.scan.specs.Feed.{Intake, size}
use Rattle.scan.specs.Passed.{passed_of}
use Rattle.feed.specs.declared.HoldNumbers.{HoldNumbers}

-- C6, C8: the held bytes without the standing block, which is dropped
unfoldable pub rest_of : List ℕ → ℕ → ℕ → List ℕ
rest_of hold held standing = take (held - standing) (drop standing hold)

-- the numbers that are given back; 0 for no block
abbrev pub numbers_of : Intake → HoldNumbers
numbers_of f =
    record { taken = f.taken; passed = passed_of f.passed; held = length f.held; standing = size f.standing }

-- C4: the hold after a call
abbrev pub hold_of : Intake → List ℕ → List ℕ
hold_of f hold = over f.held hold

-- what a caller may count on: no more than t bytes taken, and numbers that R1 lets the next call have
pub record GoodNumbers (r : HoldNumbers) (t : ℕ) : Type 0 where
  pub front : r.standing ≤ r.held
  pub few : r.held ≤ 65532
  pub taken : r.taken ≤ t

-- C4: what a call leaves in the hold is what the next one starts from: the held bytes without the standing block
abbrev pub LeftForNext : Type 0
LeftForNext =
    (f : Intake) (hold : List ℕ) → size f.standing ≤ length f.held
    → rest_of (hold_of f hold) (numbers_of f).held (numbers_of f).standing ≡ drop (size f.standing) f.held
