-- A block against a table: what each test shows, and what each way through the code makes of it.
-- Assumes nothing.
use mathlib.Core.Path.{◌≡◌, sym, ap, ◌∙◌, subst}
use mathlib.Core.List.{List}
use Rattle.std.proofs.Common.{Option, None, Some, option_map, Result, Ok, Err}
use Rattle.std.specs.Option.{ok_or}
use mathlib.Core.Bool.{Bool, true, false, not, ◌&&◌, ◌||◌}
use Prim.Native.Nat.{ℕ, ◌+◌, ◌-◌, ◌*◌, ◌%◌, ◌<◌, ◌≤◌}
use native.Mathlib.Omega.{arith}
use lib.ListN.{length, get_or}
use lib.Dec.{leb, eqb}
use borrow.Author.Tests.{leb-true, eqb-true, lt-ltb, le-ltb, eq-eqb, ne_eqb}
use Rattle.frame.proofs.View.{allows}
use Rattle.frame.specs.Frame.{greatest_ceiling, length_at, sync_at, allowed, ends_within, frame_at, whole_frame}
use Rattle.refusal.specs.declared.Refusal.{Refusal}
use Rattle.refusal.specs.declared.Refusal.TheVariants.{NoRow, TooShort, BadSubBlocks, NoSuchField, NotOneFrame}
use Rattle.table.specs.Lists.{every, pick}
use Rattle.rows.specs.Places.{field_of}
use Rattle.table.specs.Rows.{first_rows, second_rows, nested_row}
use Rattle.table.specs.declared.Shape.{Shape}
use Rattle.table.specs.Decode.{decode}
use Rattle.table.specs.Shape.{fields_of, shape_says}
use Rattle.table.specs.Rules.{block_ok}
use Rattle.table.specs.Lookup.{Finding}
use Rattle.std.proofs.lemmas.List.{length-map}
use Rattle.table.proofs.FieldRows.{fields_pick, fields_past}
use Rattle.walk.specs.declared.Span.{Span}
use Rattle.walk.specs.declared.Nest.{Nest}
use Rattle.walk.specs.Walk.{second_length_in, span, walk_end, any_second, nest_or}
use Rattle.block.specs.Block.{number_in, revision_in, count_in, sub_length_in, ends_by, body_fits, one_span, one_fits, offset_of, walk_of, nest_fits, subs_fit, alone, nest_of}
use Rattle.block.specs.Block.{row, seen_row, seen, seen_sub_row, seen_sub, Matching, SubFine, SubMatching}
use Rattle.block.specs.Code.{Fitting, Looking}
use Rattle.block.proofs.Nests.{NestFine, nest_fine}
use Rattle.wire.proofs.Tests.{both}

-- the code's span, by the byte that it read
pub span_is : (b : List ℕ) (k : ℕ) {m : ℕ} → m ≡ sub_length_in b → span (16 + k * m) m ≡ one_span b k
span_is b k e = ap {B = Span} (λ (n : ℕ). span (16 + k * n) n) e

-- a whole frame has an allowed length
module _ (b : List ℕ) (e : whole_frame b ≡ true) where
  lengths : (8 ≤ length b) × (length b % 4 ≡ 0)
  unfolding whole_frame frame_at
  lengths =
      let a = both (frame_at greatest_ceiling b 0) _ e in
      let l : length_at b 0 ≡ length b = eqb-true _ _ a.1 in
      let f = both (sync_at b 0 && allowed greatest_ceiling (length_at b 0) && ends_within b 0) _ a.0 in
      let g = both (sync_at b 0 && allowed greatest_ceiling (length_at b 0)) _ f.0 in
      let h = both (sync_at b 0) _ g.0 in
      let m = allows greatest_ceiling (length_at b 0) h.1 in
      let x : 8 ≤ length_at b 0 = m.not_small in
      let y : length_at b 0 % 4 ≡ 0 = m.by_four in
      (rw l at x, rw l at y)

  pub eight : 8 ≤ length b
  eight = lengths.0

  -- F4: 14 bytes are 16
  pub sixteen : 14 ≤ length b → 16 ≤ length b
  sixteen h = let m = lengths.1 in omega arith

-- where N2 stands: the row before the second level's, if there is one
module _ (s : Shape) (k : ℕ) (e : k ≡ s.firsts - 1) where
  pub nested_some : (x : List ℕ) → x ≡ get_or s.subs.now k x → k < length s.subs.now → (field_of x).offset ≡ offset_of (nested_row (shape_says s))
  nested_some x g h = ap (λ (r : List ℕ). (field_of r).offset) g ∙ sym (ap offset_of (ap (pick (fields_of s.subs.now)) (sym e) ∙ fields_pick s.subs.now k x h))

  pub nested_none : length s.subs.now ≤ k → 0 ≡ offset_of (nested_row (shape_says s))
  nested_none h = sym (ap offset_of (ap (pick (fields_of s.subs.now)) (sym e) ∙ fields_past s.subs.now k h))

module _ (b : List ℕ) (s : Shape) where
  pub fits_by : {x : Bool} {v : ℕ} → v ≡ revision_in b → x ≡ every (ends_by v (length b)) (fields_of s.body.now)
      → (leb 14 (length b) && x) ≡ body_fits b (shape_says s)
  unfolding body_fits
  fits_by e f = rw (f, e)

  pub subs_none : length s.subs.now ≡ 0 → true ≡ one_fits b (shape_says s)
  unfolding one_fits
  subs_none e = rw (length-map, e)

  pub subs_some : (length s.subs.now ≡ 0 → ⊥) → {n v : ℕ} {x : Bool} {p : Span} → n ≡ count_in b → p ≡ one_span b n → v ≡ revision_in b
      → x ≡ every (ends_by v p.size) (fields_of s.subs.now) → ((eqb n 0 || x) && leb p.at (length b)) ≡ one_fits b (shape_says s)
  unfolding one_fits
  subs_some e f g h i = rw (length-map, ne_eqb (length s.subs.now) 0 e, i, g, f, h)

  pub nests_by : {e n v u z : ℕ} {a x y : Bool}
      → e ≡ walk_end 20 (walk_of (shape_says s) b) → a ≡ any_second (walk_of (shape_says s) b) → n ≡ count_in b → v ≡ revision_in b → u ≡ sub_length_in b → z ≡ second_length_in b
      → x ≡ every (ends_by v u) (first_rows (shape_says s)) → y ≡ every (ends_by v z) (second_rows (shape_says s))
      → (leb 20 (length b) && leb e (length b) && (eqb n 0 || x) && (not a || y)) ≡ nest_fits b (shape_says s)
  unfolding nest_fits
  nests_by p q f g i j k l = sym (rw (← p, ← q, ← f, ← g, ← i, ← j, ← k, ← l))

  pub long : body_fits b (shape_says s) ≡ true → 14 ≤ length b
  unfolding body_fits
  long e = leb-true _ _ (both (leb 14 (length b)) _ e).0

  -- by one level, and by two
  fit_one : s.firsts ≡ 0 → subs_fit b (shape_says s) ≡ one_fits b (shape_says s)
  unfolding subs_fit
  fit_one e = rw (eq-eqb s.firsts 0 e)

  fit_two : 0 < s.firsts → subs_fit b (shape_says s) ≡ nest_fits b (shape_says s)
  unfolding subs_fit
  fit_two h = rw (ne_eqb s.firsts 0 (λ z. omega arith))

  nest_one : s.firsts ≡ 0 → (k : ℕ) → nest_of (shape_says s) b k ≡ alone (one_span b k)
  unfolding nest_of
  nest_one e k = rw (eq-eqb s.firsts 0 e)

  nest_two : 0 < s.firsts → (k : ℕ) → nest_of (shape_says s) b k ≡ nest_or (pick (walk_of (shape_says s) b) k)
  unfolding nest_of
  nest_two h k = rw (ne_eqb s.firsts 0 (λ z. omega arith))

  module _ (k : ℕ) where
    -- refusals 7 and 8
    pub fit_7 : body_fits b (shape_says s) ≡ false → Fitting b k s (Err TooShort)
    unfolding seen_row
    fit_7 e = record { is = rw e; fine = tt }

    module _ (fit : body_fits b (shape_says s) ≡ true) where
      fit_8 : subs_fit b (shape_says s) ≡ false → Fitting b k s (Err BadSubBlocks)
      unfolding seen_row
      fit_8 e = record { is = rw (fit, e); fine = tt }

      pub fit_8_one : s.firsts ≡ 0 → one_fits b (shape_says s) ≡ false → Fitting b k s (Err BadSubBlocks)
      fit_8_one z e = fit_8 (fit_one z ∙ e)

      pub fit_8_two : 0 < s.firsts → nest_fits b (shape_says s) ≡ false → Fitting b k s (Err BadSubBlocks)
      fit_8_two h e = fit_8 (fit_two h ∙ e)

      module _ (whole : whole_frame b ≡ true) (ok : block_ok (shape_says s) ≡ true) where
        fit_at : subs_fit b (shape_says s) ≡ true → {n : Nest} → (k < count_in b → n ≡ nest_of (shape_says s) b k) → Fitting b k s (Ok (s, n))
        unfolding seen_row
        fit_at e d =
            record {
              is = rw (fit, e);
              fine = record { fine = record { rules = ok; long = sixteen b whole (long fit); body = fit; subs = e }; nest = d };
            }

        pub fit_at_one : s.firsts ≡ 0 → one_fits b (shape_says s) ≡ true → {n : Nest} → (k < count_in b → n ≡ alone (one_span b k)) → Fitting b k s (Ok (s, n))
        fit_at_one z e d = fit_at (fit_one z ∙ e) (λ h. d h ∙ sym (nest_one z k))

        pub fit_at_two : 0 < s.firsts → nest_fits b (shape_says s) ≡ true → {n : Nest} → n ≡ nest_or (pick (walk_of (shape_says s) b) k) → Fitting b k s (Ok (s, n))
        fit_at_two h e d = fit_at (fit_two h ∙ e) (λ j. d ∙ sym (nest_two h k))

-- refusals 10 and 6
module _ (t b : List ℕ) (k : ℕ) where
  pub look_10 : whole_frame b ≡ false → Looking t b k (Err NotOneFrame)
  unfolding seen
  look_10 e = record { is = rw e; fine = tt }

  module _ (whole : whole_frame b ≡ true) (n : ℕ) (f : Option Shape) (d : Finding t n f) (g : n ≡ number_in b) where
    seen_by : seen (decode t) b ≡ seen_row b (option_map shape_says f)
    unfolding seen
    seen_by = rw (whole, ← g, ← d.is)

    pub look_6 : {x : Refusal} → f ≡ None → Err x ≡ ok_or f NoRow → Looking t b k (Err x)
    unfolding seen_row
    look_6 {x} h v =
        let e : x ≡ NoRow = cc in
        rw e (record { is = sym (seen_by ∙ ap (λ (o : Option Shape). seen_row b (option_map shape_says o)) h); fine = tt })

    pub look_at : {s : Shape} {l : Result (Shape × Nest) Refusal} → f ≡ Some s → Fitting b k s l → Looking t b k l
    look_at h j = record { is = j.is ∙ sym (seen_by ∙ ap (λ (x : Option Shape). seen_row b (option_map shape_says x)) h); fine = j.fine }

-- without a sub-block, and sub-blocks: refusal 9
module _ (t b : List ℕ) (k : ℕ) where
  module _ {x : Refusal} (d : Looking t b k (Err x)) where
    pub row_refused : Matching t b (Err x)
    row_refused = record { is = d.is; fine = tt }

    pub sub_refused : SubMatching t b k (Err x)
    unfolding seen_sub seen_sub_row
    sub_refused = record { is = ap (seen_sub_row b k) d.is; fine = tt }

  module _ (s : Shape) (n : Nest) (d : Looking t b k (Ok (s, n))) where
    pub row_at : Matching t b (Ok s)
    row_at = record { is = d.is; fine = d.fine.fine }

    sub_seen : seen_sub (decode t) b k ≡ seen_sub_row b k (row (shape_says s))
    unfolding seen_sub
    sub_seen = ap (seen_sub_row b k) (sym d.is)

    pub sub_none : length s.subs.now ≡ 0 → SubMatching t b k (Err NoSuchField)
    unfolding seen_sub_row
    sub_none e = record { is = sym (sub_seen ∙ rw (length-map, e, le-ltb k 0 (omega arith))); fine = tt }

    module _ (some_subs : length s.subs.now ≡ 0 → ⊥) {c : ℕ} (g : c ≡ count_in b) where
      pub sub_past : c ≤ k → SubMatching t b k (Err NoSuchField)
      unfolding seen_sub_row
      sub_past i =
          let j : count_in b ≤ k = omega arith in
          record {
            is = sym (sub_seen ∙ rw (length-map, ne_eqb (length s.subs.now) 0 some_subs, le-ltb k (count_in b) j));
            fine = tt;
          }

      -- what is known where it stands
      there : k < count_in b → SubFine b k s n
      there j =
          let e = d.fine.nest j in
          let f : NestFine b s n = subst (NestFine b s) (sym e) (nest_fine b s d.fine.fine some_subs k j) in
          record {
            rules = d.fine.fine.rules;
            long = d.fine.fine.long;
            stands = e;
            within = f.within;
            fields = f.fields;
            nested = f.nested;
          }

      pub sub_at : k < c → SubMatching t b k (Ok (s, n))
      unfolding seen_sub_row
      sub_at i =
          let j : k < count_in b = omega arith in
          record {
            is = sym (sub_seen ∙ rw (length-map, ne_eqb (length s.subs.now) 0 some_subs, lt-ltb k (count_in b) j));
            fine = there j;
          }
