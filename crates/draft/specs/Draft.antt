-- A draft of a block: what Write is given (rule W1), whether it may stand in a block of its row (R11), and how long that is (R12, W7, W9).
-- Assumes nothing.
use Rattle.std.specs.Prelude.{ℕ, ◌+◌, ◌*◌, ◌/◌, Bool, ◌&&◌, cond, List, [], ◌∷◌, leb, eqb, length}
use Rattle.rows.specs.declared.FieldRow.{FieldRow}
use Rattle.table.specs.Lists.{every}
use Rattle.table.specs.Rows.{BlockRow, ends}
use Rattle.table.specs.Lookup.{carried}
use Rattle.block.specs.Block.{has_subs}
use Rattle.record.specs.Calls.{tow_row, wnc_row}
use Rattle.entry.specs.Wanted.{Wanted, is_unset, wanted_of, values_in, subs_in}
use Rattle.entry.specs.Bits.{wanted_ok, list_ok}
use Rattle.draft.specs.declared.Head.{Head}

pub record Draft : Type 0 where
  pub number : ℕ
  pub revision : ℕ
  pub tow : Wanted
  pub wnc : Wanted
  pub body : List Wanted
  pub subs : List (List Wanted)

-- W1 to W3: the draft of a head, kinds and bits
abbrev pub draft_of : Head → List ℕ → List ℕ → Draft
draft_of h kinds bits =
    record {
      number = h.number;
      revision = h.revision;
      tow = wanted_of h.tow.kind h.tow.bits;
      wnc = wanted_of h.wnc.kind h.wnc.bits;
      body = values_in kinds bits;
      subs = subs_in kinds bits;
    }

-- V8, W5: TOW and WNc
unfoldable pub stamps_ok : Draft → Bool
stamps_ok d = wanted_ok d.revision tow_row d.tow && wanted_ok d.revision wnc_row d.wnc

-- W4, W5: the body's values; N and SBLength are not given
unfoldable pub body_ok : BlockRow → Draft → Bool
body_ok r d = cond (has_subs r) (every is_unset d.body) (list_ok d.revision r.body d.body)

-- R11, W5: the sub-blocks' values
unfoldable pub subs_ok : BlockRow → Draft → Bool
subs_ok r d =
    cond (has_subs r) (leb (length d.subs) 255 && every (list_ok d.revision r.subs) d.subs) (eqb (length d.subs) 0)

-- R11: its condition holds where this fails
unfoldable pub draft_ok : BlockRow → Draft → Bool
draft_ok r d = leb d.revision 7 && stamps_ok d && body_ok r d && subs_ok r d

-- W7, W9: where the last of these fields that is carried ends; `at` where none is
unfoldable pub last_end : ℕ → ℕ → List FieldRow → ℕ
last_end revision at [] = at
last_end revision at (f ∷ fs) = last_end revision (cond (carried revision f) (ends f) at) fs

-- W7: SBLength, of a revision and so many sub-blocks
unfoldable pub sb_length_by : BlockRow → ℕ → ℕ → ℕ
sb_length_by r revision n = cond (eqb n 0) 0 (last_end revision 0 r.subs)

-- W9: where the last field or sub-block ends; WNc ends at 14
unfoldable pub block_end_by : BlockRow → ℕ → ℕ → ℕ
block_end_by r revision n = last_end revision 14 r.body + n * sb_length_by r revision n

abbrev pub sb_length : BlockRow → Draft → ℕ
sb_length r d = sb_length_by r d.revision (length d.subs)

abbrev pub block_end : BlockRow → Draft → ℕ
block_end r d = block_end_by r d.revision (length d.subs)

-- W9: the least multiple of 4 that is not below n
abbrev pub round_up : ℕ → ℕ
round_up n = 4 * ((n + 3) / 4)

-- W9: L
abbrev pub block_length : BlockRow → Draft → ℕ
block_length r d = round_up (block_end r d)

-- R12: its condition holds where this fails; c is the ceiling, n the length of the buffer
unfoldable pub room_for : ℕ → BlockRow → Draft → ℕ → Bool
room_for c r d n = leb (block_length r d) n && leb (block_length r d) c && leb (sb_length r d) 255
