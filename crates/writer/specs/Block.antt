-- The bytes of a block that is written (rules W6 to W9).
-- Assumes nothing.
use Rattle.std.specs.Prelude.{ℕ, ◌+◌, ◌-◌, ◌*◌, cond, length, Some}
use mathlib.Core.List.{List, [], ◌∷◌, ◌++◌, flat_map}
use Rattle.crc.specs.Crc.{crc_of}
use Rattle.table.specs.Rows.{BlockRow}
use Rattle.value.specs.Said.{unsigned}
use Rattle.block.specs.Block.{has_subs}
use Rattle.record.specs.Calls.{tow_row, wnc_row}
use Rattle.pen.specs.Bytes.{little_bytes}
use Rattle.entry.specs.Wanted.{Wanted}
use Rattle.draft.specs.Draft.{Draft, sb_length, block_length}
-- W6, W8: the bytes of fields
pub use Rattle.lay.specs.Fields.{field_bits, field_out, zeros}
unfoldable pub use Rattle.lay.specs.Fields.{laid}

-- W7: N and SBLength are what a body with sub-blocks has
unfoldable pub body_values : BlockRow → Draft → List Wanted
body_values r d = cond (has_subs r) (Some (unsigned (length d.subs)) ∷ Some (unsigned (sb_length r d)) ∷ []) d.body

-- V8, W8: TOW and WNc, then the body; they begin at 8
unfoldable pub stamps_and_body : BlockRow → Draft → List ℕ
stamps_and_body r d = laid d.revision 8 (tow_row ∷ wnc_row ∷ r.body) (d.tow ∷ d.wnc ∷ body_values r d)

-- W8: the sub-blocks
unfoldable pub subs_part : BlockRow → Draft → List ℕ
subs_part r d = flat_map (laid d.revision 0 r.subs) d.subs

-- F9: the ID
abbrev pub id_for : Draft → ℕ
id_for d = d.number + 8192 * d.revision

-- W8: from ID and L on, with zeros up to L
unfoldable pub unsealed_block : BlockRow → Draft → List ℕ
unsealed_block r d =
    let all = stamps_and_body r d ++ subs_part r d in
    little_bytes 2 (id_for d) ++ (little_bytes 2 (block_length r d) ++ (all ++ zeros (block_length r d - (8 + length all))))

-- W8: the sync pair, the CRC, and what it is of
unfoldable pub block_bytes : BlockRow → Draft → List ℕ
block_bytes r d = 0x24 ∷ 0x40 ∷ (little_bytes 2 (crc_of (unsealed_block r d)) ++ unsealed_block r d)
