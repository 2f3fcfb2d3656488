-- Each record call on a block that was made says what was wanted: a field of the body stands in the block, one of a sub-block in the
-- bytes of that sub-block, which are the fields that were laid.
-- Assumes nothing.
use mathlib.Core.Bool.{Bool, true, cond}
use mathlib.Core.List.{List, [], ◌++◌, append_assoc, append-nil}
use Rattle.std.proofs.Common.{Option, None, Some}
use mathlib.Core.Path.{◌≡◌, refl, sym, ap, ap₂, ◌∙◌}
use Prim.Native.Nat.{ℕ, suc, ◌+◌, ◌*◌}
use native.Mathlib.Omega.{arith}
use lib.Dec.{ltb}
use lib.ListN.{length, get_or, take, drop, length-append}
use borrow.Author.Tests.{le-leb, lt-ltb, le-ltb, eq-eqb}
use Rattle.wire.proofs.Tests.{bool?}
use Rattle.rows.specs.declared.FieldRow.{FieldRow}
use Rattle.table.specs.Lists.{pick}
use Rattle.table.specs.Rows.{BlockRow, Table}
use Rattle.table.specs.Lookup.{carried}
use Rattle.table.proofs.Levels.{one_first}
use Rattle.walk.specs.Walk.{nest_or}
use Rattle.value.specs.Said.{not_in_revision, field_refused}
use Rattle.value.specs.Bits.{field_value}
use Rattle.block.specs.Block.{revision_in, sub_length_in, has_subs, one_span, walk_of, alone, nest_of, sub_span, refused_by, row, seen_sub_row, seen_sub}
use Rattle.record.specs.Calls.{field_said, field_or9, body_by, body_field, sub_slice, sub_by, sub_field, number_by, sub_block_refusal, tow_row, wnc_row, stamp}
use Rattle.entry.specs.Wanted.{Wanted}
use Rattle.entry.specs.Bits.{wanted_ok, list_ok}
use Rattle.draft.specs.Draft.{Draft, last_end}
use Rattle.writer.specs.Block.{laid, body_values, stamps_and_body, subs_part}
use Rattle.writing.specs.Theorems.{said_back, row_back, sub_back, part_back, body_given, ReadsBack, AllReadBack}
use Rattle.draft.proofs.Ends.{sub-some}
use Rattle.lay.proofs.Laying.{length_sub}
use Rattle.writer.proofs.Rows.{body_sixteen}
use Rattle.writer.proofs.Lengths.{length_fields}
use Rattle.writing.proofs.Values.{never_refused}
use Rattle.writing.proofs.Picks.{pick_below, pick_past}
use Rattle.writing.proofs.Wanting.{wanted_bits_lem, wanted_at}
use Rattle.writing.proofs.Offsets.{laid_reads}
use Rattle.writing.proofs.Slices.{slice_behind}
use Rattle.writing.proofs.Seeing.{header, gap, length_header, block-split, Known, kept, one, values_ok, stamped_reads, size_back, seen_is, count_is, known}
use Rattle.writing.proofs.Drafts.{stamped, stamped_values, sub_ok}

module _ {tab : Table} {r : BlockRow} {d : Draft} {buffer b : List ℕ} (s : Known tab r d buffer b) where
  -- ---- TOW and WNc

  stamp_is : (f : FieldRow) → stamp f b ≡ field_value b f
  unfolding stamp
  stamp_is f = rw (s.whole, le-leb 14 (length b) s.shortest.holds.stamps)

  pub tow_back : stamp tow_row b ≡ said_back d.tow
  unfolding pick
  tow_back = stamp_is tow_row ∙ stamped_reads s 0 tow_row refl (le-leb 0 d.revision (omega arith))

  pub wnc_back : stamp wnc_row b ≡ said_back d.wnc
  unfolding pick
  wnc_back = stamp_is wnc_row ∙ stamped_reads s 1 wnc_row refl (le-leb 0 d.revision (omega arith))

  -- ---- the body

  -- what a row says in these bytes, where its field does that is carried
  said_back_lem : (bytes : List ℕ) (w : Wanted) (o : Option FieldRow)
      → ((f : FieldRow) → o ≡ Some f → carried d.revision f ≡ true → field_value bytes f ≡ said_back w)
      → field_or9 d.revision bytes o ≡ row_back d.revision o w
  unfolding field_said
  said_back_lem bytes w None h = refl
  said_back_lem bytes w (Some f) h = bool? (carried d.revision f) (λ c. rw c (h f refl c)) (λ c. rw c)

  -- the rule's values and the writer's are the same
  pub body_back : (i : ℕ) → body_field tab b i ≡ row_back d.revision (pick r.body i) (get_or (body_given r d) i None)
  unfolding body_field pick body_given body_values
  body_back i =
      ap (body_by b i) (seen_is s) ∙ ap (λ (v : ℕ). field_or9 v b (pick r.body i)) s.revision
      ∙ said_back_lem b (get_or (body_values r d) i None) (pick r.body i) (λ f q c. stamped_reads s (suc (suc i)) f q c)

  -- ---- sub-blocks

  sub_seen : (k : ℕ) → seen_sub tab b k ≡ cond (ltb k (length d.subs)) (row r) (refused_by 9)
  unfolding seen_sub seen_sub_row
  sub_seen k = ap (seen_sub_row b k) (seen_is s) ∙ ap (λ (n : ℕ). cond (ltb k n) (row r) (refused_by 9)) (count_is s)

  sub_fits : (k : ℕ) (ws : List Wanted) → pick d.subs k ≡ Some ws → (has_subs r ≡ true) × (list_ok d.revision r.subs ws ≡ true)
  sub_fits = sub_ok r d (kept s) s.making.draft s.making.room.sub

  sub_past : (k : ℕ) → pick d.subs k ≡ None → seen_sub tab b k ≡ refused_by 9
  sub_past k q = sub_seen k ∙ rw (le-ltb k (length d.subs) (pick_past d.subs k q))

  module _ (k : ℕ) (ws : List Wanted) (q : pick d.subs k ≡ Some ws) where
    sub_there : seen_sub tab b k ≡ row r
    sub_there = sub_seen k ∙ rw (lt-ltb k (length d.subs) (pick_below d.subs k ws q))

    span_is : sub_span r b k ≡ one_span b k
    unfolding nest_of
    span_is = ap (λ (x : Bool). (cond x (alone (one_span b k)) (nest_or (pick (walk_of r b) k))).first) (eq-eqb r.firsts 0 (one s))

    -- its bytes are its fields
    one_slice : sub_slice b (one_span b k) ≡ laid d.revision 0 r.subs ws
    unfolding sub_slice subs_part
    one_slice =
        let h = (sub_fits k ws q).0 in
        let l = pick_below d.subs k ws q in
        let front = header r d ++ stamps_and_body r d in
        let n : sub_length_in b ≡ last_end d.revision 0 r.subs = size_back s h ∙ sub-some r d (omega arith) in
        let sixteen = body_sixteen r d (kept s) s.making.draft (omega arith) in
        let p : length front ≡ 16 = omega (arith, length-append (header r d) (stamps_and_body r d), length_header r d, length_fields r d (kept s), sixteen) in
        let e : b ≡ front ++ (subs_part r d ++ gap r d) =
        s.making.bytes ∙ block-split r d ∙ sym (append_assoc (header r d) (stamps_and_body r d) (subs_part r d ++ gap r d)) in
        ap₂ (λ (m : ℕ) (c : List ℕ). take m (drop (16 + k * m) c)) n e
        ∙ slice_behind (laid d.revision 0 r.subs) (last_end d.revision 0 r.subs) (λ ws. length_sub d.revision r.subs ws (kept s).subs.order) 16 front p d.subs (gap r d) k
        ws q

    slice_is : sub_slice b (sub_span r b k) ≡ laid d.revision 0 r.subs ws
    slice_is = ap (sub_slice b) span_is ∙ one_slice

    sub_reads : (j : ℕ) → sub_field tab b k j ≡ row_back d.revision (pick r.subs j) (get_or ws j None)
    unfolding sub_field
    sub_reads j =
        let ok = (sub_fits k ws q).1 in
        ap (sub_by b k j) sub_there
        ∙ ap (λ (fs : List FieldRow). field_or9 (revision_in b) (sub_slice b (sub_span r b k)) (pick fs j)) (one_first r (one s))
        ∙ ap₂ (λ (v : ℕ) (c : List ℕ). field_or9 v c (pick r.subs j)) s.revision slice_is
        ∙ said_back_lem (laid d.revision 0 r.subs ws) (get_or ws j None) (pick r.subs j)
        (laid_reads d.revision 0 r.subs ws (kept s).subs ok [] [] (laid d.revision 0 r.subs ws) refl (sym (append-nil _)) j)

  sub_by_lem : (k j : ℕ) (o : Option (List Wanted)) → pick d.subs k ≡ o → sub_field tab b k j ≡ sub_back d.revision (pick r.subs j) j o
  unfolding sub_field
  sub_by_lem k j None q = ap (sub_by b k j) (sub_past k q)
  sub_by_lem k j (Some ws) q = sub_reads k ws q j

  part_by_lem : (k : ℕ) (o : Option (List Wanted)) → pick d.subs k ≡ o → sub_block_refusal tab b k ≡ part_back o
  unfolding sub_block_refusal
  part_by_lem k None q = ap number_by (sub_past k q)
  part_by_lem k (Some ws) q = ap number_by (sub_there k ws q)

  pub sub_back_lem : (k j : ℕ) → sub_field tab b k j ≡ sub_back d.revision (pick r.subs j) j (pick d.subs k)
  sub_back_lem k j = sub_by_lem k j (pick d.subs k) refl

  pub part_back_lem : (k : ℕ) → sub_block_refusal tab b k ≡ part_back (pick d.subs k)
  part_back_lem k = part_by_lem k (pick d.subs k) refl

  -- ---- no other number than 9

  never_said : (f : FieldRow) (w : Wanted) (n : ℕ) → wanted_ok d.revision f w ≡ true → carried d.revision f ≡ true
      → said_back w ≡ field_refused n → ⊥
  never_said f w n ok c e = let x = wanted_bits_lem d.revision f w ok c in never_refused f w x.0 n x.1 e

  nine_by : (o : Option FieldRow) (w : Wanted) (n : ℕ) → ((f : FieldRow) → o ≡ Some f → wanted_ok d.revision f w ≡ true)
      → row_back d.revision o w ≡ field_refused n → n ≡ 9
  nine_by None w n h e = cc
  nine_by (Some f) w n h e =
      bool? (carried d.revision f)
      (λ c. absurd (never_said f w n (h f refl) c (rw c at e)))
      (λ c.
      let g : not_in_revision ≡ field_refused n = rw c at e in
      let z : ◌≡◌ {A = ℕ} 0 1 = cc g in absurd (omega arith))

  stamp_given : (i : ℕ) (f : FieldRow) (w : Wanted) (n : ℕ) → pick (stamped r) i ≡ Some f → f.first ≡ 0 → get_or (stamped_values r d) i None ≡ w
      → stamp f b ≡ said_back w → stamp f b ≡ field_refused n → ⊥
  stamp_given i f w n q z g e h =
      never_said f w n (rw g at (wanted_at d.revision (stamped r) (stamped_values r d) (values_ok s) i f q)) (le-leb f.first d.revision (omega arith))
      (sym e ∙ h)

  body_nine : (i n : ℕ) → row_back d.revision (pick r.body i) (get_or (body_given r d) i None) ≡ field_refused n → n ≡ 9
  unfolding pick body_given body_values
  body_nine i n e =
      nine_by (pick r.body i) (get_or (body_values r d) i None) n
      (λ f q. wanted_at d.revision (stamped r) (stamped_values r d) (values_ok s) (suc (suc i)) f q) e

  sub_nine : (k j n : ℕ) (o : Option (List Wanted)) → pick d.subs k ≡ o → sub_back d.revision (pick r.subs j) j o ≡ field_refused n → n ≡ 9
  sub_nine k j n None q e = cc
  sub_nine k j n (Some ws) q e =
      nine_by (pick r.subs j) (get_or ws j None) n (λ f p. wanted_at d.revision r.subs ws (sub_fits k ws q).1 j f p) e

  pub reads_back_all : ReadsBack tab r d b
  unfolding pick
  reads_back_all =
      record {
        number = s.number;
        revision = s.revision;
        tow = tow_back;
        wnc = wnc_back;
        body = body_back;
        sub = sub_back_lem;
        part = part_back_lem;
        tow_given = λ n. stamp_given 0 tow_row d.tow n refl refl refl tow_back;
        wnc_given = λ n. stamp_given 1 wnc_row d.wnc n refl refl refl wnc_back;
        body_nine = λ i n e. body_nine i n (sym (body_back i) ∙ e);
        sub_nine = λ k j n e. sub_nine k j n (pick d.subs k) refl (sym (sub_back_lem k j) ∙ e);
      }

pub all_read_back : AllReadBack
all_read_back c tab r d buffer b m = reads_back_all (known c tab r d buffer b m)
