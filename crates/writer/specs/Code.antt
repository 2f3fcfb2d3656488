-- Working definitions for the code: a block in the parts in which it is written.
-- Assumes nothing.
use Rattle.std.specs.Prelude.{ℕ, ◌≤◌, true, false, cond, ◌≡◌, length}
use mathlib.Core.List.{List, ◌∷◌, ◌++◌, flat_map}
use Rattle.table.specs.Lists.{every}
use Rattle.table.specs.Rows.{BlockRow}
use Rattle.table.specs.Rules.{block_ok}
use Rattle.block.specs.Block.{has_subs}
use Rattle.record.specs.Calls.{tow_row, wnc_row}
use Rattle.entry.specs.Wanted.{values_in, subs_in}
use Rattle.entry.specs.Bits.{list_ok}
use Rattle.draft.specs.declared.Measured.{Measured}
use Rattle.draft.specs.Draft.{Draft, draft_ok, last_end, sb_length_by, block_end_by}
use Rattle.draft.specs.Code.{Sizing}
use Rattle.lay.specs.Fields.{field_out, laid}
use Rattle.lay.specs.Code.{in_order}

-- TOW and WNc, at 8
abbrev pub stamps_out : Draft → List ℕ
stamps_out d = field_out tow_row d.tow ++ field_out wnc_row d.wnc

-- body and sub-blocks, at 14
unfoldable pub lists_out : BlockRow → ℕ → List ℕ → List ℕ → List ℕ
lists_out b revision kinds bits =
    let ss = subs_in kinds bits in
    cond (has_subs b)
    (length ss ∷ sb_length_by b revision (length ss) ∷ flat_map (laid revision 0 b.subs) ss)
    (laid revision 14 b.body (values_in kinds bits))

-- what `put_lists` is to be given: the rules of the rows, the right numbers, allowed values, and room
pub record Ready (b : BlockRow) (revision : ℕ) (kinds bits : List ℕ) (subs sub room : ℕ) : Type 0 where
  pub body : in_order 14 b.body ≡ true
  pub inner : in_order 0 b.subs ≡ true
  pub count : subs ≡ length (subs_in kinds bits)
  pub few : subs ≤ 255
  pub size : sub ≡ sb_length_by b revision subs
  pub small : sub ≤ 255
  pub sixteen : 16 ≤ room
  pub ends : block_end_by b revision subs ≤ room
  -- R11: the values are allowed
  pub values : has_subs b ≡ false → list_ok revision b.body (values_in kinds bits) ≡ true
  pub lists : has_subs b ≡ true → every (list_ok revision b.subs) (subs_in kinds bits) ≡ true
  -- T16: with sub-fields, the body ends at 16
  pub pair : has_subs b ≡ true → last_end revision 14 b.body ≡ 16

-- what `put_block` is to be given: a draft that its row accepts, how long its block is, and room
pub record Writable (b : BlockRow) (d : Draft) (subs : ℕ) (z : Measured) (room : ℕ) : Type 0 where
  pub rules : block_ok b ≡ true
  -- W1: one level
  pub one : b.firsts ≡ 0
  pub ok : draft_ok b d ≡ true
  pub count : subs ≡ length d.subs
  pub sizes : Sizing b d.revision subs z
  pub fits : z.all ≤ room
  pub small : z.sub ≤ 255
