-- A block that was made, as the record calls see it: TOW, WNc and the body stand behind the 8 bytes of the header, N and SBLength are
-- what was written, and no test of 10, 6, 7 and 8 refuses it.
-- Assumes nothing.
use mathlib.Core.Bool.{Bool, true, false, ◌||◌}
use mathlib.Core.List.{List, [], ◌∷◌, ◌++◌, append_assoc}
use Rattle.std.proofs.Common.{None, Some}
use mathlib.Core.Path.{◌≡◌, refl, sym, ap, ◌∙◌}
use Prim.Native.Nat.{ℕ, suc, ◌+◌, ◌-◌, ◌*◌, ◌≤◌}
use native.Mathlib.Nat.{add-zero, zero-mul}
use native.Mathlib.Omega.{arith}
use lib.Dec.{eqb}
use lib.ListN.{length, get_or}
use borrow.Author.Tests.{leb-true, le-leb, eq-eqb}
use Rattle.crc.specs.Crc.{crc_of}
use Rattle.wire.specs.Little.{little_at}
use Rattle.wire.proofs.Tests.{both_true, bool?, eq?}
use Rattle.frame.specs.Frame.{whole_frame}
use Rattle.kinds.specs.Types.{u1, size_of}
use Rattle.kinds.specs.Marks.{unmarked}
use Rattle.rows.specs.declared.FieldRow.{FieldRow}
use Rattle.rows.specs.Places.{field_row}
use Rattle.table.specs.Lists.{every, pick}
use Rattle.table.specs.Rows.{BlockRow, Table, ends}
use Rattle.table.specs.Lookup.{carried, find_row}
use Rattle.value.specs.Said.{unsigned}
use Rattle.value.specs.Bits.{field_value}
use Rattle.block.specs.Block.{number_in, revision_in, count_in, sub_length_in, ends_by, body_fits, has_subs, one_fits, subs_fit, row, seen_row, seen, sub_count}
use Rattle.pen.specs.Bytes.{little_bytes}
use Rattle.entry.specs.Wanted.{Wanted}
use Rattle.entry.specs.Bits.{list_ok}
use Rattle.draft.specs.Draft.{Draft, sb_length, block_length}
use Rattle.writer.specs.Block.{zeros, field_bits, laid, body_values, stamps_and_body, subs_part, id_for, unsealed_block, block_bytes}
use Rattle.writing.specs.Holds.{HoldsFields}
use Rattle.writing.specs.Theorems.{said_back, Made, Shortest}
use Rattle.writer.proofs.Rows.{RowKept, pair_is}
use Rattle.writing.proofs.Making.{Making, making}
use Rattle.writing.proofs.Ends.{all_shortest}
use Rattle.writing.proofs.Header.{number_is, revision_is}
use Rattle.writing.proofs.Framed.{all_framed}
use Rattle.writing.proofs.Wanting.{bits_are}
use Rattle.writing.proofs.Offsets.{laid-bits, laid_reads}
use Rattle.writing.proofs.Drafts.{byte_bits, stamped, stamped_values, stamped_kept, pair_values, stamped_ok}

-- ---- the parts of a block

abbrev pub header : BlockRow → Draft → List ℕ
header r d = 0x24 ∷ 0x40 ∷ (little_bytes 2 (crc_of (unsealed_block r d)) ++ (little_bytes 2 (id_for d) ++ little_bytes 2 (block_length r d)))

abbrev pub gap : BlockRow → Draft → List ℕ
gap r d = zeros (block_length r d - (8 + length (stamps_and_body r d ++ subs_part r d)))

pub length_header : (r : BlockRow) (d : Draft) → length (header r d) ≡ 8
unfolding little_bytes
length_header r d = refl

pub block-split : (r : BlockRow) (d : Draft) → block_bytes r d ≡ header r d ++ (stamps_and_body r d ++ (subs_part r d ++ gap r d))
unfolding block_bytes unsealed_block
block-split r d = simp append_assoc

-- ---- fields that are held end by there

holds-every : (revision n : ℕ) (fs : List FieldRow) → HoldsFields revision fs n → every (ends_by revision n) fs ≡ true
unfolding every pick
holds-every revision n [] h = refl
holds-every revision n (f ∷ fs) h =
    both_true {a = ends_by revision n f}
    (bool? (carried revision f) (λ c. rw (c, le-leb (ends f) n (h 0 f refl (leb-true _ _ c)))) (λ c. rw c))
    (holds-every revision n fs (λ i g q. h (suc i) g q))

or_true : (a b : Bool) → b ≡ true → (a || b) ≡ true
or_true true b e = refl
or_true false b e = e

-- ---- a block that was made

-- what its making, its frame and its length say
pub record Known (tab : Table) (r : BlockRow) (d : Draft) (buffer b : List ℕ) : Type 0 where
  pub making : Making tab r d buffer b
  pub found : find_row tab d.number ≡ Some r
  pub whole : whole_frame b ≡ true
  pub number : number_in b ≡ d.number
  pub revision : revision_in b ≡ d.revision
  pub shortest : Shortest r d (length b)

module _ {tab : Table} {r : BlockRow} {d : Draft} {buffer b : List ℕ} (s : Known tab r d buffer b) where
  pub kept : RowKept r
  kept = s.making.found.kept

  at_header : b ≡ header r d ++ (laid d.revision 8 (stamped r) (stamped_values r d) ++ (subs_part r d ++ gap r d))
  unfolding stamps_and_body
  at_header = s.making.bytes ∙ block-split r d

  pub values_ok : list_ok d.revision (stamped r) (stamped_values r d) ≡ true
  values_ok = stamped_ok r d kept s.making.draft s.making.room.sub

  -- field i of TOW, WNc and the body
  pub stamped_reads : (i : ℕ) (f : FieldRow) → pick (stamped r) i ≡ Some f → carried d.revision f ≡ true
      → field_value b f ≡ said_back (get_or (stamped_values r d) i None)
  stamped_reads =
      laid_reads d.revision 8 (stamped r) (stamped_values r d) (stamped_kept r kept) values_ok (header r d) (subs_part r d ++ gap r d) b (length_header r d)
      at_header

  stamped_bits : (i : ℕ) (f : FieldRow) → pick (stamped r) i ≡ Some f → carried d.revision f ≡ true
      → little_at (size_of f.kind) b f.offset ≡ field_bits f (get_or (stamped_values r d) i None)
  stamped_bits =
      laid-bits d.revision 8 (stamped r) (stamped_values r d) (stamped_kept r kept) values_ok (header r d) (subs_part r d ++ gap r d) b (length_header r d)
      at_header

  -- ---- N and SBLength

  module _ (h : has_subs r ≡ true) where
    -- a body of these two, which stand at 14 and 15
    byte_at : (i at n : ℕ) → pick (field_row 14 u1 0 unmarked ∷ field_row 15 u1 0 unmarked ∷ []) i ≡ Some (field_row at u1 0 unmarked)
        → get_or (Some (unsigned (length d.subs)) ∷ Some (unsigned (sb_length r d)) ∷ []) i None ≡ Some (unsigned n) → n ≤ 255 → get_or b at 0 ≡ n
    unfolding little_at size_of pick
    byte_at i at n p q l =
        let f = field_row at u1 0 unmarked in
        let row_is = ap (λ (fs : List FieldRow). pick fs i) (pair_is r.body (kept.pair h)) ∙ p in
        let e : little_at 1 b at ≡ field_bits f (get_or (body_values r d) i None) =
        stamped_bits (suc (suc i)) f row_is (le-leb 0 d.revision (omega arith)) in
        sym (add-zero (get_or b at 0)) ∙ e ∙ ap (field_bits f) (ap (λ (ws : List Wanted). get_or ws i None) (pair_values r d h) ∙ q)
        ∙ bits_are f (Some (unsigned n)) (byte_bits at n l)

    count_back : count_in b ≡ length d.subs
    unfolding pick
    count_back = byte_at 0 14 (length d.subs) refl refl s.making.draft.few

    pub size_back : sub_length_in b ≡ sb_length r d
    unfolding pick
    size_back = byte_at 1 15 (sb_length r d) refl refl s.making.room.sub

    -- R8: the sub-blocks fit
    subs_end : 16 + length d.subs * sb_length r d ≤ length b
    subs_end =
        eq? (length d.subs) 0
        (λ z.
        let m = s.shortest.multiple in
        let l = s.shortest.holds.stamps in
        let q : length d.subs * sb_length r d ≡ 0 = ap (λ (n : ℕ). n * sb_length r d) z ∙ zero-mul (sb_length r d) in
        omega arith)
        (λ z. s.shortest.holds.subs (omega arith))

    subs_hold : (eqb (length d.subs) 0 || every (ends_by d.revision (sb_length r d)) r.subs) ≡ true
    subs_hold =
        eq? (length d.subs) 0
        (λ z. rw (eq-eqb (length d.subs) 0 z))
        (λ z. or_true (eqb (length d.subs) 0) _ (holds-every d.revision (sb_length r d) r.subs (s.shortest.sub_holds (omega arith))))

  body_fits_lem : body_fits b r ≡ true
  unfolding body_fits
  body_fits_lem =
      both_true (le-leb 14 (length b) s.shortest.holds.stamps)
      (rw s.revision (holds-every d.revision (length b) r.body s.shortest.holds.body))

  pub one : r.firsts ≡ 0
  one = s.making.found.one

  one_fit : one_fits b r ≡ true
  unfolding one_fits
  one_fit =
      bool? (has_subs r)
      (λ h. rw (h, s.revision, size_back h, count_back h) (both_true (subs_hold h) (le-leb _ _ (subs_end h))))
      (λ h. rw h)

  subs_fit_lem : subs_fit b r ≡ true
  unfolding subs_fit
  subs_fit_lem = rw (eq-eqb r.firsts 0 one) one_fit

  -- R20: no call is refused but with 9
  pub seen_is : seen tab b ≡ row r
  unfolding seen seen_row
  seen_is = rw (s.whole, s.number, s.found, body_fits_lem, subs_fit_lem)

  -- so many sub-blocks
  pub count_is : sub_count b r ≡ length d.subs
  count_is = bool? (has_subs r) (λ h. rw h (count_back h)) (λ h. rw h (sym (s.making.draft.alone h)))

pub known : (c : ℕ) (tab : Table) (r : BlockRow) (d : Draft) (buffer b : List ℕ) → Made c tab r d buffer b → Known tab r d buffer b
known c tab r d buffer b m =
    let g = making c tab r d buffer b m in
    let f = all_framed c tab r d buffer b m in
    record {
      making = g;
      found = m.found;
      whole = f.whole;
      number = ap number_in g.bytes ∙ number_is r d g.found.small g.draft.revision;
      revision = ap revision_in g.bytes ∙ revision_is r d g.found.small g.draft.revision;
      shortest = all_shortest c tab r d buffer b m;
    }
