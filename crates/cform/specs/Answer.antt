-- The answers as C has them: each of the reader's answers, with its number, kind and values. What a kind does not have is 0.
-- Assumes nothing.
use Rattle.std.specs.Prelude.{ℕ, cond, ℤ, pos, Option, None, Some}
use Rattle.record.specs.Answer.{FieldSaid, do_not_use, double, field_refused, not_in_revision, signed, single, unsigned}
use Rattle.reader.specs.State.{no_counts}
use Rattle.reader.specs.Said.{Report, Said, refused, version, took, found, ended, waited}
use Rattle.cform.specs.declared.CBlock.{CBlock}
use Rattle.cform.specs.declared.CCounts.{CCounts}
use Rattle.cform.specs.State.{counts_c}
use Rattle.cform.specs.declared.CAnswer.{CAnswer}
use Rattle.cform.specs.declared.CState.{CState}
use Rattle.cform.specs.declared.CReply.{CReply}
use Rattle.cform.specs.declared.CField.{CField}
use Rattle.cform.specs.declared.CPart.{CPart}

abbrev pub no_block : CBlock
no_block = record { place = 0; length = 0; number = 0; revision = 0 }

abbrev pub no_end : CCounts
no_end = counts_c no_counts

abbrev pub block_c : Report → CBlock
block_c b = record { place = b.place; length = b.size; number = b.number; revision = b.revision }

-- ---- the calls that go on with the state

-- the refusal's number, a kind, a version, whether a table waited, the count taken, a block, the end's counts
abbrev pub say : ℕ → ℕ → ℕ → ℕ → ℕ → CBlock → CCounts → CAnswer
say n k v w t b e = record { refusal = n; kind = k; version = v; waited = w; taken = t; block = b; end = e }

-- kinds: 0 refused, 1 a version, 2 a block, 3 more, 4 the end, 5 withdrawn
abbrev pub answer_c : Said → CAnswer
answer_c (refused n) = say n 0 0 0 0 no_block no_end
answer_c (version v) = say 0 1 v 0 0 no_block no_end
answer_c (took t (Some b)) = say 0 2 0 0 t (block_c b) no_end
answer_c (took t None) = say 0 3 0 0 t no_block no_end
answer_c (found b) = say 0 2 0 0 0 (block_c b) no_end
answer_c (ended c) = say 0 4 0 0 0 no_block (counts_c c)
answer_c (waited w) = say 0 5 0 (cond w 1 0) 0 no_block no_end

-- the answer, and the state that the next call goes on with
abbrev pub reply_c : Said → CState → CReply
reply_c a s = record { state = s; answer = answer_c a }

-- ---- fields

-- the refusal's number, a kind, an unsigned value, a signed one, the bits of a float
abbrev pub tell : ℕ → ℕ → ℕ → ℤ → ℕ → CField
tell n k u z b = record { refusal = n; kind = k; number = u; signed = z; bits = b }

-- V7, by kinds: 0 refused, 1 unsigned, 2 signed, 3 single float, 4 double float, 5 Do-Not-Use, 6 not in this revision
abbrev pub field_c : FieldSaid → CField
field_c (unsigned n) = tell 0 1 n (pos 0) 0
field_c (signed z) = tell 0 2 0 z 0
field_c (single b) = tell 0 3 0 (pos 0) b
field_c (double b) = tell 0 4 0 (pos 0) b
field_c do_not_use = tell 0 5 0 (pos 0) 0
field_c not_in_revision = tell 0 6 0 (pos 0) 0
field_c (field_refused n) = tell n 0 0 (pos 0) 0

-- ---- parts

-- R22: the refusal's number and an empty part, or the part from an offset
abbrev pub part_c : Option ℕ → ℕ → ℕ → CPart
part_c (Some n) o l = record { refusal = n; offset = 0; length = 0 }
part_c None o l = record { refusal = 0; offset = o; length = l }
