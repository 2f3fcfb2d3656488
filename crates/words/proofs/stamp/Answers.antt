-- `words::stamp` meets its contract: each return is one law of `stamp_in`.
-- Assumes nothing.
use Rattle.std.proofs.Common.{ap, ◌∙◌, arith, rules}
use Rattle.words.specs.Values.{of_kind}
use Rattle.words.proofs.Valuing.{stamp_dash, stamp_number}
use Rattle.words.proofs.stamp.Goals as goal
use Rattle.words.proofs.stamp.Goals.{in_default-via-then-word-lt1, in_default-via-else-word-lt1+then-word-lt2+in_default-1, in_default-via-else-word-lt1+else-word-lt2}

pub returns-in-45 : goal.returns-in-45
returns-in-45 c = stamp_dash c.args.word.now (omega arith) (omega arith)

pub returns-in_default : goal.returns-in_default
returns-in_default c =
    c.of_kind.ensures ∙ ap (of_kind 1) c.number.ensures ∙ stamp_number c.args.word.now (elim c.in_default.branch [ in_default-via-then-word-lt1 w ↦ λ h e. search rules | in_default-via-else-word-lt1+then-word-lt2+in_default-1 w ↦ λ h e. search rules | in_default-via-else-word-lt1+else-word-lt2 w ↦ λ h e. search rules ])
