-- What each call answers, by the row or the refusal that the block came to.
-- Assumes nothing.
use mathlib.Core.Path.{◌≡◌, refl, ap, ◌∙◌, sym}
use mathlib.Core.List.{List}
use mathlib.Core.Bool.{true}
use Rattle.std.proofs.Common.{Some, Result, Ok, Err}
use Prim.Native.Nat.{ℕ, ◌+◌, ◌<◌, ◌≤◌}
use native.Mathlib.Omega.{arith}
use lib.ListN.{length, get_or}
use lib.Dec.{leb}
use Rattle.refusal.specs.declared.Refusal.{Refusal}
use Rattle.refusal.specs.declared.Refusal.TheVariants.{NoSuchField}
use Rattle.refusal.specs.Numbers.{number_for, refusal_of}
use Rattle.refusal.proofs.Numbers.{back}
use Rattle.rows.specs.declared.FieldRow.{FieldRow}
use Rattle.table.specs.Lists.{every, pick}
use Rattle.table.specs.Rows.{first_rows}
use Rattle.rows.specs.Places.{field_of}
use Rattle.table.specs.declared.Shape.{Shape}
use Rattle.table.specs.Decode.{decode}
use Rattle.table.specs.Shape.{fields_of, shape_says}
use Rattle.table.proofs.FieldRows.{fields_pick, fields_past, every_pick}
use Rattle.walk.specs.declared.Nest.{Nest}
use Rattle.value.specs.declared.Value.{Value}
use Rattle.value.specs.Said.{field_refused}
use Rattle.record.specs.Answer.{Answers}
use Rattle.block.specs.Block.{revision_in, ends_by, body_fits, Matching, SubMatching}
use Rattle.record.specs.Calls.{field_said, field_or9, body_by, body_field, sub_slice, sub_by, sub_field, nowhere, place_by, sub_place, number_by, sub_block_refusal}
use Rattle.record.proofs.Fields.{same}
use Rattle.wire.proofs.Tests.{both}

pub refuses : (x : Refusal) → Answers (Err x) (field_refused (number_for x))
refuses x = record { says = refl; case = ap Err (back x) }

-- the field asked for, or 9
module _ (rows : List (List ℕ)) (i v : ℕ) (s : List ℕ) where
  pub none_there : length rows ≤ i → Answers (Err NoSuchField) (field_or9 v s (pick (fields_of rows) i))
  none_there h = rw (fields_past rows i h) (refuses NoSuchField)

  module _ (d : List ℕ) (f : FieldRow) (e : f ≡ field_of (get_or rows i d)) (h : i < length rows) where
    there : pick (fields_of rows) i ≡ Some f
    there = fields_pick rows i d h ∙ ap Some (sym e)

    pub one_there : {a : Result Value Refusal} → Answers a (field_said v s f) → Answers a (field_or9 v s (pick (fields_of rows) i))
    one_there u = rw there u

    pub ends_there : every (ends_by v (length s)) (fields_of rows) ≡ true → ends_by v (length s) f ≡ true
    ends_there a = every_pick (ends_by v (length s)) (fields_of rows) i f a there

module _ (t b : List ℕ) (i : ℕ) where
  pub body_refused : {x : Refusal} → Matching t b (Err x) → Answers (Err x) (body_field (decode t) b i)
  unfolding body_field
  body_refused {x} d = same (ap (body_by b i) d.is) (refuses x)

  module _ {r : Shape} (d : Matching t b (Ok r)) where
    pub body_says : {v : ℕ} {a : Result Value Refusal} → v ≡ revision_in b → Answers a (field_or9 v b (pick (fields_of r.body.now) i)) → Answers a (body_field (decode t) b i)
    unfolding body_field
    body_says u w = same (ap (λ (x : ℕ). field_or9 x b (pick (fields_of r.body.now) i)) u ∙ ap (body_by b i) d.is) w

    pub body_ends : {v : ℕ} → v ≡ revision_in b → every (ends_by v (length b)) (fields_of r.body.now) ≡ true
    unfolding body_fits
    body_ends u = rw u (both (leb 14 (length b)) _ d.fine.body).1

module _ (t b : List ℕ) (k : ℕ) where
  module _ {x : Refusal} (d : SubMatching t b k (Err x)) where
    pub place_refused : nowhere ≡ sub_place (decode t) b k
    unfolding sub_place
    place_refused = ap (place_by b k) d.is

    pub twin_refused : refusal_of {T = Unit} (Err x) ≡ sub_block_refusal (decode t) b k
    unfolding sub_block_refusal
    twin_refused = ap number_by d.is

    pub sub_refused : (j : ℕ) → Answers (Err x) (sub_field (decode t) b k j)
    unfolding sub_field
    sub_refused j = same (ap (sub_by b k j) d.is) (refuses x)

  module _ {r : Shape} {n : Nest} (d : SubMatching t b k (Ok (r, n))) where
    pub place_given : n.first ≡ sub_place (decode t) b k
    unfolding sub_place
    place_given = ap (λ (x : Nest). x.first) d.fine.stands ∙ ap (place_by b k) d.is

    pub twin_given : refusal_of (Ok n.first) ≡ sub_block_refusal (decode t) b k
    unfolding sub_block_refusal
    twin_given = ap number_by d.is

    -- it lies in the block
    pub first_within : n.first.at + n.first.size ≤ length b
    first_within = omega (arith, d.fine.within)

    pub sub_says : (j : ℕ) {v : ℕ} {s : List ℕ} {fs : List FieldRow} {a : Result Value Refusal} → v ≡ revision_in b → s ≡ sub_slice b n.first
        → fs ≡ first_rows (shape_says r) → Answers a (field_or9 v s (pick fs j)) → Answers a (sub_field (decode t) b k j)
    unfolding sub_field
    sub_says j u q e w =
        let m = ap (λ (x : Nest). field_or9 (revision_in b) (sub_slice b x.first) (pick (first_rows (shape_says r)) j)) d.fine.stands in
        same (m ∙ ap (sub_by b k j) d.is) (rw (u, q, e) at w)

    pub sub_ends : {v m : ℕ} {fs : List FieldRow} → v ≡ revision_in b → m ≡ n.first.size → fs ≡ first_rows (shape_says r) → every (ends_by v m) fs ≡ true
    sub_ends u q e = rw (u, q, e) d.fine.fields
