-- What is read of a block that was made, given to Write again, is the same draft but for lists that say the same at each index: so the
-- same bytes.
-- Assumes nothing.
use mathlib.Core.Bool.{true, false, cond}
use mathlib.Core.List.{List, [], ◌∷◌, map}
use Rattle.std.proofs.Common.{None, Some}
use mathlib.Core.Path.{◌≡◌, refl, sym, ap, ap₂, ◌∙◌}
use Prim.Native.Nat.{ℕ, zero, suc, ◌≤◌}
use native.Mathlib.Nat.{zero-add}
use native.Mathlib.Omega.{arith}
use lib.ListN.{length, get_or}
use borrow.Author.Tests.{le-leb, eq-eqb}
use Rattle.wire.proofs.Tests.{both, both_true, bool?}
use Rattle.rows.specs.declared.FieldRow.{FieldRow}
use Rattle.table.specs.Lists.{tabulate, every, pick}
use Rattle.table.specs.Rows.{BlockRow, Table}
use Rattle.table.specs.Lookup.{find_row}
use Rattle.table.proofs.Lists.{length_tab}
use Rattle.copy.specs.Over.{over}
use Rattle.block.specs.Block.{has_subs, sub_count}
use Rattle.record.specs.Calls.{body_field, sub_field, tow_row, wnc_row, stamp}
use Rattle.value.specs.Said.{unsigned}
use Rattle.entry.specs.Wanted.{Wanted}
use Rattle.entry.specs.Bits.{wanted_ok, list_ok}
use Rattle.draft.specs.Draft.{Draft, stamps_ok, body_ok, subs_ok, draft_ok, sb_length_by, block_end_by, sb_length, block_length, round_up, room_for}
use Rattle.writer.specs.Block.{laid, body_values, stamps_and_body, subs_part, unsealed_block, block_bytes}
use Rattle.writer.specs.Write.{wrote, write_outcome, written_by, written_of}
use Rattle.writing.specs.Theorems.{said_back, row_back, sub_back, as_read, body_given, draft_read, ReadsBack, AllWriteBack}
use Rattle.writing.proofs.Values.{wanted_again}
use Rattle.draft.proofs.Admitted.{Admitted}
use Rattle.writing.proofs.Making.{Making}
use Rattle.writing.proofs.Wanting.{wanted_bits_lem}
use Rattle.writing.proofs.Again.{SameAt, same_laid, same_ok, list_again, map_again, same_flat, same_every}
use Rattle.writing.proofs.Drafts.{stamped, stamped_values, pair_values, plain-values, sub_ok}
use Rattle.writing.proofs.Seeing.{Known, kept, count_is, known}
use Rattle.writing.proofs.Reading.{all_read_back}

-- ---- a draft with other lists

abbrev relisted : Draft → List Wanted → List (List Wanted) → Draft
relisted d ws ss = record { number = d.number; revision = d.revision; tow = d.tow; wnc = d.wnc; body = ws; subs = ss }

-- lists that say what the draft's own do, by this row
pub record Alike (r : BlockRow) (d : Draft) (ws : List Wanted) (ss : List (List Wanted)) : Type 0 where
  pub pair : has_subs r ≡ true → ws ≡ []
  pub body : has_subs r ≡ false → SameAt ws d.body
  pub count : length ss ≡ length d.subs
  pub laid : map (laid d.revision 0 r.subs) ss ≡ map (laid d.revision 0 r.subs) d.subs
  pub ok : map (list_ok d.revision r.subs) ss ≡ map (list_ok d.revision r.subs) d.subs

module _ (r : BlockRow) (d : Draft) (ws : List Wanted) (ss : List (List Wanted)) (a : Alike r d ws ss) where
  abbrev again : Draft
  again = relisted d ws ss

  -- the lengths are by their number
  same_sub : sb_length r again ≡ sb_length r d
  same_sub = ap (sb_length_by r d.revision) a.count

  same_length : block_length r again ≡ block_length r d
  same_length = ap (λ (n : ℕ). round_up (block_end_by r d.revision n)) a.count

  same_body : body_ok r d ≡ true → body_ok r again ≡ true
  unfolding body_ok every
  same_body m =
      bool? (has_subs r)
      (λ h. rw (h, a.pair h))
      (λ h. rw h (same_ok d.revision r.body ws d.body (a.body h) ∙ (rw h at m)))

  same_lists : subs_ok r again ≡ subs_ok r d
  unfolding subs_ok
  same_lists = rw (a.count, same_every (list_ok d.revision r.subs) ss d.subs a.ok)

  same_draft : Admitted r d → draft_ok r again ≡ true
  unfolding draft_ok stamps_ok
  same_draft m =
      both_true (both_true (both_true (le-leb d.revision 7 m.revision) m.stamps) (same_body m.body)) (same_lists ∙ m.subs)

  same_values : SameAt (body_values r again) (body_values r d)
  same_values i =
      bool? (has_subs r)
      (λ h.
      let p = ap₂ (λ (n m : ℕ). Some (unsigned n) ∷ Some (unsigned m) ∷ []) a.count same_sub in
      ap (λ (vs : List Wanted). get_or vs i None) (pair_values r again h ∙ p ∙ sym (pair_values r d h)))
      (λ h.
      ap (λ (vs : List Wanted). get_or vs i None) (plain-values r again h) ∙ a.body h i
      ∙ ap (λ (vs : List Wanted). get_or vs i None) (sym (plain-values r d h)))

  same_fields : stamps_and_body r again ≡ stamps_and_body r d
  unfolding stamps_and_body
  same_fields = same_laid d.revision 8 (stamped r) (stamped_values r again) (stamped_values r d) same_at where
    same_at : SameAt (stamped_values r again) (stamped_values r d)
    same_at zero = refl
    same_at (suc zero) = refl
    same_at (suc (suc i)) = same_values i

  same_subs : subs_part r again ≡ subs_part r d
  unfolding subs_part
  same_subs = same_flat (laid d.revision 0 r.subs) ss d.subs a.laid

  same_bytes : block_bytes r again ≡ block_bytes r d
  unfolding block_bytes unsealed_block
  same_bytes = rw (same_length, same_fields, same_subs)

-- ---- what is read of a block

module _ {tab : Table} {r : BlockRow} {d : Draft} {buffer b : List ℕ} (s : Known tab r d buffer b) (back : ReadsBack tab r d b) where
  abbrev body_read : List Wanted
  body_read = cond (has_subs r) [] (tabulate (λ i. as_read (body_field tab b i)) 0 (length r.body))

  abbrev sub_read : ℕ → List Wanted
  sub_read k = tabulate (λ j. as_read (sub_field tab b k j)) 0 (length r.subs)

  -- a body without sub-fields
  body_same : has_subs r ≡ false → SameAt body_read d.body
  unfolding body_ok body_given body_values
  body_same h =
      rw h
      (list_again d.revision r.body d.body (λ i. as_read (body_field tab b i)) (rw h at s.making.draft.body)
      (λ i. ap as_read (back.body i ∙ ap (λ (vs : List Wanted). row_back d.revision (pick r.body i) (get_or vs i None)) (plain-values r d h))))

  sub_same : (k : ℕ) (ws : List Wanted) → pick d.subs k ≡ Some ws → SameAt (sub_read k) ws
  sub_same k ws q =
      list_again d.revision r.subs ws (λ j. as_read (sub_field tab b k j))
      (sub_ok r d (kept s) s.making.draft s.making.room.sub k ws q).1
      (λ j. ap as_read (back.sub k j ∙ ap (sub_back d.revision (pick r.subs j) j) q))

  subs_same : {B : Type 0} (h : List Wanted → B) → ((vs ws : List Wanted) → SameAt vs ws → h vs ≡ h ws)
      → map h (tabulate sub_read 0 (sub_count b r)) ≡ map h d.subs
  subs_same h same =
      ap (λ (n : ℕ). map h (tabulate sub_read 0 n)) (count_is s)
      ∙ map_again h sub_read d.subs 0 (λ k ws q. ap (λ (n : ℕ). h (sub_read n)) (zero-add k) ∙ same (sub_read k) ws (sub_same k ws q))

  read_alike : Alike r d body_read (tabulate sub_read 0 (sub_count b r))
  read_alike =
      record {
        pair = λ h. rw h;
        body = body_same;
        count = length_tab sub_read 0 (sub_count b r) ∙ count_is s;
        laid = subs_same (laid d.revision 0 r.subs) (same_laid d.revision 0 r.subs);
        ok = subs_same (list_ok d.revision r.subs) (same_ok d.revision r.subs);
      }

  -- TOW and WNc
  stamp_same : (f : FieldRow) (w : Wanted) → f.first ≡ 0 → wanted_ok d.revision f w ≡ true → stamp f b ≡ said_back w → as_read (stamp f b) ≡ w
  stamp_same f w z ok e =
      let x = wanted_bits_lem d.revision f w ok (le-leb f.first d.revision (omega arith)) in
      ap as_read e ∙ wanted_again f w x.0 x.1

  read_is : draft_read tab r b ≡ relisted d body_read (tabulate sub_read 0 (sub_count b r))
  unfolding draft_read stamps_ok
  read_is =
      let k = both (wanted_ok d.revision tow_row d.tow) _ s.making.draft.stamps in
      let tow = stamp_same tow_row d.tow refl k.0 back.tow in
      let wnc = stamp_same wnc_row d.wnc refl k.1 back.wnc in
      let number = back.number in
      let revision = back.revision in
      λ i.
      record {
        number = number i;
        revision = revision i;
        tow = tow i;
        wnc = wnc i;
        body = body_read;
        subs = tabulate sub_read 0 (sub_count b r);
      }

-- ---- it is written again

written_same : (top : ℕ) (tab : Table) (r : BlockRow) (d : Draft) (buffer b room : List ℕ) (ws : List Wanted) (ss : List (List Wanted)) → Making tab r d buffer b
    → find_row tab d.number ≡ Some r → Alike r d ws ss → length b ≤ top → length b ≤ length room
    → written_of top tab (relisted d ws ss) room ≡ write_outcome (wrote (length b)) (over b room)
unfolding written_of written_by room_for
written_same top tab r d buffer b room ws ss m found a under fits =
    let n : block_length r (relisted d ws ss) ≡ length b = same_length r d ws ss a ∙ sym m.size in
    let c : block_bytes r (relisted d ws ss) ≡ b = same_bytes r d ws ss a ∙ sym m.bytes in
    let room_is = le-leb (length b) (length room) fits in
    let sub = le-leb (sb_length r d) 255 m.room.sub in
    rw (found, eq-eqb r.firsts 0 m.found.one, same_draft r d ws ss a m.draft, n, c, same_sub r d ws ss a, room_is, le-leb (length b) top under, sub)

pub all_write_back : AllWriteBack
all_write_back c top tab r d buffer b room m under fits =
    let s = known c tab r d buffer b m in
    let back = all_read_back c tab r d buffer b m in
    ap (λ (x : Draft). written_of top tab x room) (read_is s back)
    ∙ written_same top tab r d buffer b room _ _ s.making m.found (read_alike s back) under fits
