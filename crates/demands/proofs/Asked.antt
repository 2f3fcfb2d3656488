-- The record calls: the tests of the definitions, in R20's order, give the first condition that holds.
-- Assumes nothing.
use Prim.Native.Nat.{ℕ, ◌<◌}
use mathlib.Core.Path.{◌≡◌, refl, sym, ap, ◌∙◌, subst}
use mathlib.Core.Bool.{Bool, true, false, ◌&&◌}
use mathlib.Core.List.{List, [], ◌∷◌}
use mathlib.Core.Logic.{◌⊎◌, inl, inr, ⊎_elim}
use Rattle.std.proofs.Common.{Option, None, Some}
use lib.ListN.{length}
use lib.Dec.{ltb}
use Rattle.frame.specs.Frame.{whole_frame}
use Rattle.wire.proofs.Tests.{never}
use Rattle.rows.specs.declared.FieldRow.{FieldRow}
use Rattle.table.specs.Rows.{BlockRow, first_rows, second_rows}
use Rattle.table.specs.Decode.{decode}
use Rattle.table.specs.Rules.{block_ok, table_ok}
use Rattle.table.specs.Lookup.{find_row}
use Rattle.block.specs.Block.{number_in, body_fits, subs_fit, seen_row, seen, seen_sub}
use Rattle.record.specs.Calls.{body_field, sub_field, sub_block_refusal, stamp}
use Rattle.reader.specs.State.{sound}
use Rattle.reader.specs.Refusals.{need, long_store}
use Rattle.records.specs.Calls.{table_in_force, ask_refusal, first_of, body_of, sub_of, sub_bytes_refusal, stamp_of}
use Rattle.epoch.specs.Second.{second_field}
use Rattle.epoch.specs.Ranges.{range_field, range2_field}
use Rattle.epochs.specs.Calls.{sub2_of, range_of, range2_of}
use Rattle.demands.specs.World.{World, body, sub, sub_bytes, sub2, range, range2, look, field_refusal}
use Rattle.demands.specs.Refusals.{ShortStore, BadState, Breaks, OneFrame, block_number, RowOf, OfRow, NotInTable, BodyDoesNotFit, SubsDoNotFit, NoField, NoSubBlock, NoSecond, NoRange, NoRange2, NoWholeFrame, ◌when◌, Order, Exactly, record_order, stamp_order, order}
use Rattle.demands.proofs.Exact.{Tells, exactly_none, both, within, bad_state, store_tells, some_tells, table_tells}
use Rattle.demands.proofs.Framed.{one_frame, frame_tells}
use Rattle.demands.proofs.Numbers.{then_of, body_row, sub_row, twin_row, seen_need, row_less, row_need, stamp_need, first_need, number_unless}
use Rattle.demands.proofs.Fits.{of_length, row_there, row_none, only, of_row, seven_tells, eight_tells, field_tells, sub_tells}
use Rattle.demands.proofs.Ruled.{rules_of}
use Rattle.demands.proofs.Nested.{sub2_row, range_row, range2_row, sub2_tells, range_tells, range2_tells}

-- ---- a row of tests, of which each may use those before it

pub passed_by : (c : Bool) (m : ℕ) {P : Type 0} (o : Option ℕ) {r : Order} → Tells c P → (c ≡ true → Exactly o r) → Exactly (need c m o) (m when P ∷ r)
passed_by true m o t x =
    record {
      gives = λ n e. inr (t.fine refl, (x refl).gives n e);
      given = λ n g. ⊎_elim (λ q. absurd (t.fine refl q.1)) (λ q. (x refl).given n q.1) g;
    }
passed_by false m o t x =
    record {
      gives = λ n e. let q : m ≡ n = cc in inl (q, t.holds refl);
      given = λ n g. ⊎_elim (λ q. ap Some q.0) (λ q. absurd (q.0 (t.holds refl))) g;
    }

pub same : {o p : Option ℕ} {r : Order} → o ≡ p → Exactly p r → Exactly o r
same {r = r} e x = subst (λ (o : Option ℕ). Exactly o r) (sym e) x

pub last : {c : Bool} {P : Type 0} (m : ℕ) → Tells c P → Exactly (need c m None) (m when P ∷ [])
last {c} m t = passed_by c m None t (λ _. exactly_none)

-- ---- 10, 6, 7, 8, and then 9, of a table that passes

-- 9's test on the block's row
abbrev nine_of : (BlockRow → Bool) → BlockRow → Option ℕ
nine_of test r = need (test r) 9 None

module _ (t b : List ℕ) (ok : table_ok t ≡ true) (test : BlockRow → Bool) (Nine : BlockRow → Type 0) (tells : (r : BlockRow) → block_ok r ≡ true → Tells (test r) (Nine r)) where
  fits_exact : (r : BlockRow) → OneFrame b → RowOf (decode t) (block_number b) r
      → Exactly (need (body_fits b r) 7 (need (subs_fit b r) 8 (nine_of test r))) (7 when BodyDoesNotFit (decode t) b ∷ 8 when SubsDoNotFit (decode t) b ∷ 9 when OfRow (decode t) (block_number b) Nine ∷ [])
  fits_exact r f h =
      let one : (q : BlockRow) → RowOf (decode t) (block_number b) q → q ≡ r = λ q k. only t (block_number b) ok q r k h in
      passed_by (body_fits b r) 7 _ (seven_tells (decode t) b r h one f)
      (λ _. passed_by (subs_fit b r) 8 _ (eight_tells (decode t) b r h one f) (λ _. last 9 (of_row (decode t) (block_number b) r h one Nine (tells r (rules_of t ok (block_number b) r h)))))

  row_exact : OneFrame b → (o : Option BlockRow) → find_row (decode t) (number_in b) ≡ o
      → Exactly (then_of (seen_row b o) (nine_of test)) (6 when NotInTable (decode t) (block_number b) ∷ (7 when BodyDoesNotFit (decode t) b ∷ 8 when SubsDoNotFit (decode t) b ∷ 9 when OfRow (decode t) (block_number b) Nine ∷ []))
  row_exact f None e =
      same (row_less b (nine_of test)) (passed_by false 6 None (record { fine = λ z. never z refl; holds = λ _. row_none (decode t) (block_number b) e }) (λ z. never z refl))
  row_exact f (Some r) e =
      let h = row_there (decode t) (block_number b) e in
      same (row_need b r (nine_of test))
      (passed_by true 6 _ (record { fine = λ _ g. g r h; holds = λ z. never refl z }) (λ _. fits_exact r f h))

  seen_exact : Exactly (then_of (seen (decode t) b) (nine_of test))
      (10 when NoWholeFrame b ∷ 6 when NotInTable (decode t) (block_number b) ∷ 7 when BodyDoesNotFit (decode t) b ∷ 8 when SubsDoNotFit (decode t) b ∷ 9 when OfRow (decode t) (block_number b) Nine ∷ [])
  seen_exact =
      same (seen_need (decode t) b (nine_of test))
      (passed_by (whole_frame b) 10 _ (frame_tells b) (λ e. row_exact (one_frame b e) (find_row (decode t) (number_in b)) refl))

-- ---- 1, 5, 4, and then the others

pub ask_exact : (w : World) (o : Option ℕ) {r : Order} → (table_ok (table_in_force w.state w.force) ≡ true → Exactly o r)
    → Exactly (first_of (ask_refusal w.state w.force) o)
    (1 when (BadState w.state ⊎ ShortStore w.force) ∷ 5 when (w.state.in_force ≡ 0) ∷ 4 when Breaks (table_in_force w.state w.force) ∷ r)
unfolding ask_refusal
ask_exact w o x =
    let a = sound w.state && long_store w.force in
    let b = ltb 0 w.state.in_force in
    let c = table_ok (table_in_force w.state w.force) in
    same (first_need a 1 (need b 5 (need c 4 None)) o ∙ ap (need a 1) (first_need b 5 (need c 4 None) o ∙ ap (need b 5) (first_need c 4 None o)))
    (passed_by a 1 _ (store_tells w.state w.force)
    (λ _. passed_by b 5 _ (some_tells w.state.in_force) (λ _. passed_by c 4 o (table_tells (table_in_force w.state w.force)) x)))

module _ (w : World) (b : List ℕ) where
  record_exact : (test : BlockRow → Bool) (Nine : BlockRow → Type 0) → ((r : BlockRow) → block_ok r ≡ true → Tells (test r) (Nine r))
      → Exactly (first_of (ask_refusal w.state w.force) (then_of (seen (decode (table_in_force w.state w.force)) b) (nine_of test))) (record_order w b Nine)
  record_exact test Nine tells = ask_exact w _ (λ ok. seen_exact (table_in_force w.state w.force) b ok test Nine tells)

  pub body_exact : (i : ℕ) → Exactly (field_refusal (body_of w.state w.force b i)) (order (look (body b i)) w)
  unfolding body_of body_field
  body_exact i =
      let ask = ask_refusal w.state w.force in
      same (number_unless ask _ ∙ ap (first_of ask) (body_row b i (seen (decode (table_in_force w.state w.force)) b)))
      (record_exact _ (λ (r : BlockRow). NoField r.body i) (λ r _. field_tells r.body i))

  pub sub_exact : (k j : ℕ) → Exactly (field_refusal (sub_of w.state w.force b k j)) (order (look (sub b k j)) w)
  unfolding sub_of sub_field seen_sub
  sub_exact k j =
      let ask = ask_refusal w.state w.force in
      same (number_unless ask _ ∙ ap (first_of ask) (sub_row b k j (seen (decode (table_in_force w.state w.force)) b)))
      (record_exact _ (λ (r : BlockRow). NoSubBlock b k r ⊎ NoField (first_rows r) j) (λ r _. both (sub_tells b k r) (field_tells (first_rows r) j)))

  pub twin_exact : (k : ℕ) → Exactly (sub_bytes_refusal w.state w.force b k) (order (look (sub_bytes b k)) w)
  unfolding sub_bytes_refusal sub_block_refusal seen_sub
  twin_exact k =
      same (ap (first_of (ask_refusal w.state w.force)) (twin_row b k (seen (decode (table_in_force w.state w.force)) b)))
      (record_exact _ (NoSubBlock b k) (λ r _. sub_tells b k r))

  pub sub2_exact : (k m j : ℕ) → Exactly (field_refusal (sub2_of w.state w.force b k m j)) (order (look (sub2 b k m j)) w)
  unfolding sub2_of second_field seen_sub
  sub2_exact k m j =
      let ask = ask_refusal w.state w.force in
      same (number_unless ask _ ∙ ap (first_of ask) (sub2_row b k m j (seen (decode (table_in_force w.state w.force)) b)))
      (record_exact _ (λ (r : BlockRow). NoSecond b k m r ⊎ NoField (second_rows r) j) (sub2_tells b k m j))

  pub range_exact : (k : ℕ) → Exactly (field_refusal (range_of w.state w.force b k)) (order (look (range b k)) w)
  unfolding range_of range_field seen_sub
  range_exact k =
      let ask = ask_refusal w.state w.force in
      same (number_unless ask _ ∙ ap (first_of ask) (range_row b k (seen (decode (table_in_force w.state w.force)) b)))
      (record_exact _ (NoRange b k) (range_tells b k))

  pub range2_exact : (k m : ℕ) → Exactly (field_refusal (range2_of w.state w.force b k m)) (order (look (range2 b k m)) w)
  unfolding range2_of range2_field seen_sub
  range2_exact k m =
      let ask = ask_refusal w.state w.force in
      same (number_unless ask _ ∙ ap (first_of ask) (range2_row b k m (seen (decode (table_in_force w.state w.force)) b)))
      (record_exact _ (NoRange2 b k m) (range2_tells b k m))

  -- TOW and WNc: 1, 10, 7
  pub stamp_exact : (f : FieldRow) → Exactly (field_refusal (stamp_of f w.state b)) (stamp_order w b)
  unfolding stamp_of
  stamp_exact f =
      let a = sound w.state in
      same (number_unless (need a 1 None) (stamp f b) ∙ first_need a 1 None (field_refusal (stamp f b)) ∙ ap (need a 1) (stamp_need f b))
      (passed_by a 1 _ (bad_state w.state)
      (λ _. passed_by (whole_frame b) 10 _ (frame_tells b) (λ e. last 7 (of_length b (one_frame b e) (λ (n : ℕ). n < 14) (within 14 (length b))))))
