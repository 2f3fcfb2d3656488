-- The numbers of the refusals (rules R1 to R13), there and back.
-- Assumes nothing.
use Rattle.std.specs.Prelude.{ℕ, ◌-◌, ◌≡◌, List, [], ◌∷◌, get_or, Option, None, Some, Result, Ok, Err}
use Rattle.refusal.specs.declared.Refusal.{Refusal}
use Rattle.refusal.specs.declared.Refusal.TheVariants.{BadBuffer, OutOfTurn, RunFull, BadTable, NoTable, NoRow, TooShort, BadSubBlocks, NoSuchField, NotOneFrame, BadValues, NoRoom, BadCeiling}

-- D9: each refusal's number, R1 to R13
abbrev pub number_for : Refusal → ℕ
number_for BadBuffer = 1
number_for OutOfTurn = 2
number_for RunFull = 3
number_for BadTable = 4
number_for NoTable = 5
number_for NoRow = 6
number_for TooShort = 7
number_for BadSubBlocks = 8
number_for NoSuchField = 9
number_for NotOneFrame = 10
number_for BadValues = 11
number_for NoRoom = 12
number_for BadCeiling = 13

-- R22: the number that a call is refused with, or none
abbrev pub refusal_of : {T : Type 0} → Result T Refusal → Option ℕ
refusal_of (Ok x) = None
refusal_of (Err r) = Some (number_for r)

-- the refusals in the order of their numbers, and the one of a number
abbrev pub refusals : List Refusal
refusals =
    BadBuffer ∷ OutOfTurn ∷ RunFull ∷ BadTable ∷ NoTable ∷ NoRow ∷ TooShort ∷ BadSubBlocks ∷ NoSuchField ∷ NotOneFrame ∷ BadValues ∷ NoRoom ∷ BadCeiling ∷ []

abbrev pub refusal_numbered : ℕ → Refusal
refusal_numbered n = get_or refusals (n - 1) BadBuffer

-- the way there and back: a refusal is the one of its number
abbrev pub NumbersApart : Type 0
NumbersApart = (x : Refusal) → x ≡ refusal_numbered (number_for x)
