-- What Sub2 answers, by the row or the refusal that the block came to.
-- Assumes nothing.
use mathlib.Core.List.{List}
use mathlib.Core.Path.{◌≡◌, sym, ap, ◌∙◌}
use Rattle.std.proofs.Common.{Result, Ok, Err}
use Prim.Native.Nat.{ℕ, ◌<◌, ◌≤◌}
use Rattle.refusal.specs.declared.Refusal.{Refusal}
use Rattle.refusal.specs.declared.Refusal.TheVariants.{NoSuchField}
use Rattle.rows.specs.declared.FieldRow.{FieldRow}
use Rattle.table.specs.declared.Shape.{Shape}
use Rattle.table.specs.Lists.{pick}
use Rattle.table.specs.Rows.{second_rows}
use Rattle.table.specs.Shape.{shape_says}
use Rattle.table.specs.Decode.{decode}
use Rattle.walk.specs.declared.Nest.{Nest}
use Rattle.walk.specs.Walk.{second_at, seconds}
use Rattle.block.specs.Block.{revision_in, SubMatching}
use Rattle.value.specs.declared.Value.{Value}
use Rattle.record.specs.Answer.{Answers}
use Rattle.record.specs.Calls.{field_or9, sub_slice}
use Rattle.record.proofs.Fields.{same}
use Rattle.record.proofs.Calls.{refuses}
use Rattle.epoch.specs.Second.{in_second, second_by, second_field}
use Rattle.epoch.proofs.Seconds.{second_in, second_out}

module _ (t b : List ℕ) (k m j : ℕ) where
  pub second_refused : {x : Refusal} → SubMatching t b k (Err x) → Answers (Err x) (second_field (decode t) b k m j)
  unfolding second_field
  second_refused {x} d = same (ap (second_by b k m j) d.is) (refuses x)

  module _ {r : Shape} {n : Nest} (d : SubMatching t b k (Ok (r, n))) where
    by_nest : in_second b (shape_says r) j (pick (seconds n) m) ≡ second_field (decode t) b k m j
    unfolding second_field
    by_nest = ap (λ (x : Nest). in_second b (shape_says r) j (pick (seconds x) m)) d.fine.stands ∙ ap (second_by b k m j) d.is

    pub second_none : n.count ≤ m → Answers (Err NoSuchField) (second_field (decode t) b k m j)
    second_none i = same (sym (ap (in_second b (shape_says r) j) (second_out n m i)) ∙ by_nest) (refuses NoSuchField)

    module _ (i : m < n.count) {fs : List FieldRow} (e : fs ≡ second_rows (shape_says r)) where
      pub second_says : {v : ℕ} {s : List ℕ} {a : Result Value Refusal} → v ≡ revision_in b → s ≡ sub_slice b (second_at n m)
          → Answers a (field_or9 v s (pick fs j)) → Answers a (second_field (decode t) b k m j)
      second_says u q w = same (sym (ap (in_second b (shape_says r) j) (second_in n m i)) ∙ by_nest) (rw (e, u, q) at w)
