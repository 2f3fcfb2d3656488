-- Bytes settled by a judge of places (rules F11, F15): each place that it finds to be no frame is passed over, with the reason; a
-- block, an undecided place or the end stops it.
-- Assumes nothing.
use Rattle.std.specs.Prelude.{ℕ, List, [], ◌∷◌, Option, None, Some}
use Rattle.frame.specs.declared.Reason.{Reason}
use Rattle.frame.specs.declared.Verdict.{Verdict}
use Rattle.frame.specs.declared.Verdict.TheVariants.{NoFrame, Frame, Undecided}

-- F14: why each skipped byte was skipped, the length of the block at the front of the rest, and the rest
pub record Settled : Type 0 where
  pub passed : List Reason
  pub standing : Option ℕ
  pub rest : List ℕ

abbrev pub stop_at : Option ℕ → List ℕ → Settled
stop_at o v = record { passed = []; standing = o; rest = v }

abbrev pub pass : Reason → Settled → Settled
pass r s = record { passed = r ∷ s.passed; standing = s.standing; rest = s.rest }

-- F11, F15: at one place
abbrev pub settle_by : Verdict → List ℕ → Settled → Settled
settle_by (NoFrame r) v next = pass r next
settle_by (Frame n) v next = stop_at (Some n) v
settle_by Undecided v next = stop_at None v

-- F11, F15: from place to place
unfoldable pub settle : (List ℕ → Verdict) → List ℕ → Settled
settle judge [] = stop_at None []
settle judge (b ∷ bs) = settle_by (judge (b ∷ bs)) (b ∷ bs) (settle judge bs)
