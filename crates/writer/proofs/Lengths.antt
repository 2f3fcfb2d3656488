-- How long the parts of a block are, and the block, by a row that keeps the rules.
-- Assumes nothing.
use mathlib.Core.Bool.{true}
use mathlib.Core.List.{[], ◌∷◌, ◌++◌}
use mathlib.Core.Path.{◌≡◌, ◌∙◌}
use Prim.Native.Nat.{ℕ, ◌+◌, ◌-◌, ◌*◌}
use native.Mathlib.Omega.{arith}
use lib.ListN.{length, length-append, length-replicate}
use Rattle.crc.specs.Crc.{crc_of}
use Rattle.kinds.specs.Types.{size_of}
use Rattle.table.specs.Rows.{BlockRow}
use Rattle.record.specs.Calls.{tow_row, wnc_row}
use Rattle.pen.specs.Bytes.{little_bytes}
use Rattle.pen.proofs.Stores.{length_little}
use Rattle.draft.specs.Draft.{Draft, last_end, sb_length, block_end_by, block_end, block_length}
use Rattle.draft.proofs.Ends.{round-holds}
use Rattle.lay.specs.Fields.{zeros, laid}
use Rattle.lay.specs.Code.{in_order}
use Rattle.lay.proofs.Laying.{last_put, length_laid, length_sub}
use Rattle.lay.proofs.Filling.{length_flat}
use Rattle.writer.specs.Block.{body_values, stamps_and_body, subs_part, id_for, unsealed_block, block_bytes}
use Rattle.writer.proofs.Parts.{no_length}
use Rattle.writer.proofs.Rows.{RowKept}

module _ (r : BlockRow) (d : Draft) (k : RowKept r) where
  -- TOW, WNc and the body, from 8 on
  pub length_fields : 8 + length (stamps_and_body r d) ≡ last_end d.revision 14 r.body
  unfolding stamps_and_body in_order size_of
  length_fields =
      let v = d.revision in
      let o : in_order 8 (tow_row ∷ wnc_row ∷ r.body) ≡ true = k.body.order in
      length_laid v 8 (tow_row ∷ wnc_row ∷ r.body) (d.tow ∷ d.wnc ∷ body_values r d) o
      ∙ last_put v 8 tow_row (wnc_row ∷ r.body) [] (omega arith) ∙ last_put v 12 wnc_row r.body [] (omega arith)

  length_subs : length (subs_part r d) ≡ length d.subs * sb_length r d
  unfolding subs_part
  length_subs =
      length_flat (laid d.revision 0 r.subs) (last_end d.revision 0 r.subs) d.subs (λ ws. length_sub d.revision r.subs ws k.subs.order)
      ∙ no_length r d.revision (length d.subs)

  -- header, fields and sub-blocks end at the block's end
  pub length_all : 8 + length (stamps_and_body r d ++ subs_part r d) ≡ block_end r d
  unfolding block_end_by
  length_all = omega (arith, length-append (stamps_and_body r d) (subs_part r d), length_fields, length_subs)

  -- all from the ID on
  pub length_unsealed : 4 + length (unsealed_block r d) ≡ block_length r d
  unfolding unsealed_block
  length_unsealed =
      let all = stamps_and_body r d ++ subs_part r d in
      let gap = block_length r d - (8 + length all) in
      let a = length-append (little_bytes 2 (id_for d)) (little_bytes 2 (block_length r d) ++ (all ++ zeros gap)) in
      let b = length-append (little_bytes 2 (block_length r d)) (all ++ zeros gap) in
      let c = length-append all (zeros gap) in
      omega (arith, a, b, c, length_little 2 (id_for d), length_little 2 (block_length r d), length-replicate {A = ℕ} gap 0, length_all, round-holds (block_end r d))

  pub length_block : length (block_bytes r d) ≡ block_length r d
  unfolding block_bytes
  length_block =
      let crc = little_bytes 2 (crc_of (unsealed_block r d)) in
      omega (arith, length-append crc (unsealed_block r d), length_little 2 (crc_of (unsealed_block r d)), length_unsealed)
