-- Feeding a piece, a byte at a time (rule C6).
-- Assumes nothing.
use Rattle.std.specs.Prelude.{ℕ, zero, suc, List, [], ◌∷◌, ◌++◌, Option, None, Some}
use Rattle.frame.specs.Judge.{judged}
use Rattle.scan.specs.Settle.{Settled, settle}
use Rattle.frame.specs.declared.Reason.{Reason}
use Rattle.frame.specs.declared.Verdict.{Verdict}

-- C6: how many bytes of the piece were taken, why each skipped byte was skipped, the length of the block at the front of the held
-- bytes, and these
pub record Intake : Type 0 where
  pub taken : ℕ
  pub passed : List Reason
  pub standing : Option ℕ
  pub held : List ℕ

-- no byte is taken
abbrev pub stop : Settled → Intake
stop s = record { taken = 0; passed = s.passed; standing = s.standing; held = s.rest }

-- a byte is taken, and then `next` comes
abbrev pub go_on : Settled → Intake → Intake
go_on s next =
    record { taken = suc next.taken; passed = s.passed ++ next.passed; standing = next.standing; held = next.held }

-- C6: a block ends the taking
abbrev pub unless_block : Option ℕ → Settled → Intake → Intake
unless_block (Some n) s next = stop s
unless_block None s next = go_on s next

-- C6, by any judge of places; `room` is how many bytes the run may still take
unfoldable pub feed_by : (List ℕ → Verdict) → List ℕ → List ℕ → ℕ → Intake
feed_by judge held [] room = stop (settle judge held)
feed_by judge held (b ∷ bs) zero = stop (settle judge held)
feed_by judge held (b ∷ bs) (suc room) =
    unless_block (settle judge held).standing (settle judge held) (feed_by judge ((settle judge held).rest ++ b ∷ []) bs room)

-- C6, by F12's judge with a ceiling (F16)
abbrev pub feed_lit : ℕ → List ℕ → List ℕ → ℕ → Intake
feed_lit c = feed_by (judged c)

-- the length of the standing block, 0 for none
abbrev pub size : Option ℕ → ℕ
size None = 0
size (Some n) = n
