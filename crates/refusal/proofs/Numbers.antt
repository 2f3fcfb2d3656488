-- A refusal is the one of its number, so no two have one number.
-- Assumes nothing.
use mathlib.Core.Path.{◌≡◌, refl, sym, ap, ◌∙◌}
use Rattle.refusal.specs.declared.Refusal.{Refusal}
use Rattle.refusal.specs.declared.Refusal.TheVariants.{BadBuffer, OutOfTurn, RunFull, BadTable, NoTable, NoRow, TooShort, BadSubBlocks, NoSuchField, NotOneFrame, BadValues, NoRoom, BadCeiling}
use Rattle.refusal.specs.Numbers.{number_for, refusal_numbered, NumbersApart}

pub back : NumbersApart
back BadBuffer = refl
back OutOfTurn = refl
back RunFull = refl
back BadTable = refl
back NoTable = refl
back NoRow = refl
back TooShort = refl
back BadSubBlocks = refl
back NoSuchField = refl
back NotOneFrame = refl
back BadValues = refl
back NoRoom = refl
back BadCeiling = refl

pub same_refusal : (x y : Refusal) → number_for x ≡ number_for y → x ≡ y
same_refusal x y e = back x ∙ ap refusal_numbered e ∙ sym (back y)
