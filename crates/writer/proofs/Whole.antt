-- A block from the parts in which it is written: which bytes they are, how long, and that stored one over the other they are the block.
-- Assumes nothing.
use mathlib.Core.Bool.{true}
use mathlib.Core.List.{List, [], ◌∷◌, ◌++◌, append_assoc, append-nil, flat_map}
use mathlib.Core.Path.{◌≡◌, refl, sym, ap, ap₂, ◌∙◌}
use Prim.Native.Nat.{ℕ, ◌+◌, ◌-◌, ◌≤◌}
use native.Mathlib.Nat.{zero-add}
use native.Mathlib.Omega.{arith}
use lib.ListN.{length, take, drop, length-append}
use lib.Seq.{sets, sets-eq}
use Rattle.kinds.specs.Types.{size_of}
use Rattle.table.specs.Rows.{BlockRow}
use Rattle.table.specs.Rules.{block_ok}
use Rattle.copy.specs.Over.{over}
use Rattle.crc.specs.Crc.{crc_of}
use Rattle.block.specs.Block.{has_subs}
use Rattle.record.specs.Calls.{tow_row, wnc_row}
use Rattle.wire.proofs.Tests.{bool?}
use Rattle.pen.specs.Bytes.{little_bytes}
use Rattle.pen.proofs.Stores.{sets_append, sets_before, stored_part}
use Rattle.entry.specs.Wanted.{values_in}
use Rattle.pen.specs.Seal.{headed, sealed}
use Rattle.draft.specs.declared.Head.{Head}
use Rattle.draft.specs.Draft.{Draft, draft_of, draft_ok, sb_length, block_end_by, block_end, block_length}
use Rattle.draft.proofs.Admitted.{admitted}
use Rattle.lay.specs.Fields.{field_out, zeros, laid}
use Rattle.lay.proofs.Laying.{length_field, laid_put, at_last}
use Rattle.writer.specs.Block.{body_values, stamps_and_body, subs_part, id_for, unsealed_block, block_bytes}
use Rattle.writer.specs.Code.{stamps_out, lists_out}
use Rattle.writer.proofs.Rows.{row_kept, pair_out}
use Rattle.writer.proofs.Lengths.{length_all, length_unsealed, length_block}

pub length_stamps : (d : Draft) → length (stamps_out d) ≡ 6
unfolding size_of
length_stamps d = length-append (field_out tow_row d.tow) (field_out wnc_row d.wnc) ∙ ap₂ (λ (x y : ℕ). x + y) (length_field tow_row d.tow) (length_field wnc_row d.wnc)

fields_are : (r : BlockRow) (d : Draft) → stamps_and_body r d ≡ stamps_out d ++ laid d.revision 14 r.body (body_values r d)
unfolding stamps_and_body size_of
fields_are r d =
    laid_put d.revision 8 tow_row (wnc_row ∷ r.body) (d.tow ∷ d.wnc ∷ body_values r d) (omega arith)
    ∙ ap (λ (x : List ℕ). field_out tow_row d.tow ++ x) (laid_put d.revision 12 wnc_row r.body (d.wnc ∷ body_values r d) (omega arith))
    ∙ sym (append_assoc (field_out tow_row d.tow) (field_out wnc_row d.wnc) (laid d.revision 14 r.body (body_values r d)))

none_of : {A : Type 0} (xs : List A) → length xs ≡ 0 → xs ≡ []
none_of [] h = refl
none_of (x ∷ xs) h = let f : ⊥ = omega arith in absurd f

-- the parts
module _ (r : BlockRow) (h : Head) (kinds bits : List ℕ) (rules : block_ok r ≡ true) (one : r.firsts ≡ 0) (ok : draft_ok r (draft_of h kinds bits) ≡ true)
    (small : sb_length r (draft_of h kinds bits) ≤ 255) where
  abbrev d : Draft
  d = draft_of h kinds bits

  abbrev lists : List ℕ
  lists = lists_out r h.revision kinds bits

  body_and_subs : laid d.revision 14 r.body (body_values r d) ++ subs_part r d ≡ lists
  unfolding body_values subs_part lists_out flat_map
  body_and_subs =
      bool? (has_subs r)
      (λ e. rw (e, pair_out r.body ((row_kept r rules one).pair e) d.revision (length d.subs) (sb_length r d) (admitted r d ok).few small))
      (λ e. rw (e, none_of d.subs ((admitted r d ok).alone e)) (append-nil (laid h.revision 14 r.body (values_in kinds bits))))

  parts_are : stamps_and_body r d ++ subs_part r d ≡ stamps_out d ++ lists
  parts_are =
      rw (fields_are r d, append_assoc (stamps_out d) (laid d.revision 14 r.body (body_values r d)) (subs_part r d), body_and_subs)

  length_parts : 8 + length (stamps_out d ++ lists) ≡ block_end r d
  length_parts = sym (ap (λ (x : List ℕ). 8 + length x) parts_are) ∙ length_all r d (row_kept r rules one)

  -- stored one over the other, and closed, they are the block
  module _ (s : List ℕ) (room : block_length r d ≤ length s) where
    abbrev end : ℕ
    end = block_end r d

    abbrev all : ℕ
    all = block_length r d

    abbrev filled : List ℕ
    filled = (stamps_out d ++ lists) ++ zeros (all - end)

    filled_is : sets (sets (sets s 8 (stamps_out d)) 14 lists) end (zeros (all - end)) ≡ sets s 8 filled
    filled_is =
        let a : 14 ≡ 8 + length (stamps_out d) = sym (ap (λ (x : ℕ). 8 + x) (length_stamps d)) in
        ap (λ (x : ℕ). sets (sets (sets s 8 (stamps_out d)) x lists) end (zeros (all - end))) a
        ∙ ap (λ (x : List ℕ). sets x end (zeros (all - end))) (sets_append s 8 (stamps_out d) lists)
        ∙ ap (λ (x : ℕ). sets (sets s 8 (stamps_out d ++ lists)) x (zeros (all - end))) (sym length_parts)
        ∙ sets_append s 8 (stamps_out d ++ lists) (zeros (all - end))

    unsealed_is : (little_bytes 2 (id_for d) ++ little_bytes 2 all) ++ filled ≡ unsealed_block r d
    unfolding unsealed_block
    unsealed_is =
        rw (parts_are, length_parts, append_assoc (little_bytes 2 (id_for d)) (little_bytes 2 all) filled)

    head_is : headed (sets s 8 filled) (id_for d) all ≡ sets s 4 (unsealed_block r d)
    unfolding little_bytes
    head_is = sets_before s 4 (little_bytes 2 (id_for d) ++ little_bytes 2 all) filled ∙ ap (sets s 4) unsealed_is

    all_long : 16 ≤ all
    unfolding block_end_by
    all_long = let n = at_last d.revision 14 r.body (row_kept r rules one).body.order in omega arith

    sealed_is : sealed (sets s 8 filled) (id_for d) all ≡ sets s 0 (block_bytes r d)
    unfolding sealed block_bytes little_bytes
    sealed_is =
        let l : length (unsealed_block r d) ≡ all - 4 = omega (arith, length_unsealed r d (row_kept r rules one)) in
        let n = all_long in
        let c : take (all - 4) (drop 4 (sets s 4 (unsealed_block r d))) ≡ unsealed_block r d =
        ap (λ (x : ℕ). take x (drop 4 (sets s 4 (unsealed_block r d)))) (sym l) ∙ stored_part s 4 (unsealed_block r d) (omega arith) in
        rw (head_is, c) (sets_before s 0 (0x24 ∷ 0x40 ∷ little_bytes 2 (crc_of (unsealed_block r d))) (unsealed_block r d))

    pub block_is_lem : sealed (sets (sets (sets s 8 (stamps_out d)) 14 lists) end (zeros (all - end))) (id_for d) all ≡ over (block_bytes r d) s
    block_is_lem =
        let n = length_block r d (row_kept r rules one) in
        let z : 0 + length (block_bytes r d) ≤ length s = omega arith in
        rw filled_is (sealed_is ∙ sets-eq (block_bytes r d) s 0 z ∙ rw zero-add)
