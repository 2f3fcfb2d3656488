-- What Range and Range2 answer, by the row or the refusal that the block came to.
-- Assumes nothing.
use mathlib.Core.Bool.{Bool, true, false}
use mathlib.Core.List.{List}
use Rattle.std.proofs.Common.{Option, None, Some, Result, Ok, Err}
use mathlib.Core.Path.{◌≡◌, refl, sym, ap, ◌∙◌}
use Prim.Native.Nat.{ℕ, ◌<◌, ◌≤◌}
use Rattle.refusal.specs.declared.Refusal.{Refusal}
use Rattle.refusal.specs.declared.Refusal.TheVariants.{NoSuchField}
use Rattle.table.specs.declared.Shape.{Shape}
use Rattle.table.specs.Shape.{shape_says}
use Rattle.table.specs.Decode.{decode}
use Rattle.walk.specs.declared.Nest.{Nest}
use Rattle.walk.specs.Walk.{second_at}
use Rattle.block.specs.Block.{nest_of, sub_matched_says, SubMatching}
use Rattle.value.specs.declared.Value.{Value}
use Rattle.value.specs.Said.{field_refused}
use Rattle.record.specs.Answer.{Answers}
use Rattle.record.proofs.Fields.{same}
use Rattle.record.proofs.Calls.{refuses}
use Rattle.pseudorange.specs.Range.{range_said, range2_said}
use Rattle.epoch.specs.Ranges.{first_pair, second_pair, is_epoch, range_by, range_field, range2_by, range2_field}
use Rattle.epoch.proofs.Seconds.{second_in, second_out}

-- without a second number there is no range of the second level
no_second : (p : Option (ℕ × ℕ)) → range2_said p None ≡ field_refused 9
no_second None = refl
no_second (Some p) = refl

module _ (t b : List ℕ) (k : ℕ) where
  pub range_refused : {x : Refusal} → SubMatching t b k (Err x) → Answers (Err x) (range_field (decode t) b k)
  unfolding range_field
  range_refused {x} d = same (ap (range_by b k) d.is) (refuses x)

  pub range2_refused : (m : ℕ) {x : Refusal} → SubMatching t b k (Err x) → Answers (Err x) (range2_field (decode t) b k m)
  unfolding range2_field
  range2_refused m {x} d = same (ap (range2_by b k m) d.is) (refuses x)

  module _ {r : Shape} {n : Nest} (d : SubMatching t b k (Ok (r, n))) {e : Bool} (is : e ≡ is_epoch b (shape_says r)) where
    stood : nest_of (shape_says r) b k ≡ n
    stood = sym d.fine.stands

    -- Range
    by_range : range_by b k (sub_matched_says (Ok (r, n))) ≡ range_field (decode t) b k
    unfolding range_field
    by_range = ap (range_by b k) d.is

    pub range_9 : e ≡ false → Answers (Err NoSuchField) (range_field (decode t) b k)
    range_9 f = same (sym (rw (sym is ∙ f)) ∙ by_range) (refuses NoSuchField)

    pub range_says : e ≡ true → {p : Option (ℕ × ℕ)} {a : Result Value Refusal} → p ≡ first_pair (shape_says r) b n → Answers a (range_said p) → Answers a (range_field (decode t) b k)
    range_says f {p} q w = same (sym (rw (sym is ∙ f, stood, ← q)) ∙ by_range) w

    -- Range2
    module _ (m : ℕ) where
      by_range2 : range2_by b k m (sub_matched_says (Ok (r, n))) ≡ range2_field (decode t) b k m
      unfolding range2_field
      by_range2 = ap (range2_by b k m) d.is

      pub range2_9 : e ≡ false → Answers (Err NoSuchField) (range2_field (decode t) b k m)
      range2_9 f = same (sym (rw (sym is ∙ f)) ∙ by_range2) (refuses NoSuchField)

      pub range2_none : e ≡ true → n.count ≤ m → Answers (Err NoSuchField) (range2_field (decode t) b k m)
      range2_none f i = same (sym (rw (sym is ∙ f, stood, second_out n m i) (no_second (first_pair (shape_says r) b n))) ∙ by_range2) (refuses NoSuchField)

      pub range2_says : e ≡ true → m < n.count → {p q : Option (ℕ × ℕ)} {a : Result Value Refusal} → p ≡ first_pair (shape_says r) b n → q ≡ second_pair (shape_says r) b (Some (second_at n m))
          → Answers a (range2_said p q) → Answers a (range2_field (decode t) b k m)
      range2_says f i u v w = same (sym (rw (sym is ∙ f, stood, second_in n m i, ← u, ← v)) ∙ by_range2) w
