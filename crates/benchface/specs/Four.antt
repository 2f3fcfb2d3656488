-- The numbers that a call gives to C, in the order in which they are stored.
-- Assumes nothing.
use Rattle.std.specs.Prelude.{ℕ, List, [], ◌∷◌}
use Rattle.feed.specs.declared.HoldNumbers.{HoldNumbers}

abbrev pub four_of : HoldNumbers → List ℕ
four_of r = r.held ∷ r.standing ∷ r.taken ∷ r.passed.skipped ∷ []
