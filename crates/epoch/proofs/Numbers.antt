-- The numbers in fields: what each way through the code makes of them, and that a number of k bytes is below 256 to the k.
-- Assumes nothing.
use mathlib.Core.Bool.{Bool, true, false, cond}
use mathlib.Core.List.{List}
use Rattle.std.proofs.Common.{Option, None, Some, Result, IfSome}
use mathlib.Core.Path.{◌≡◌, refl, sym, ap, ◌∙◌}
use Prim.Native.Nat.{ℕ, zero, suc, ◌<◌, ◌≤◌, ◌^◌}
use native.Mathlib.Omega.{arith}
use lib.ListN.{length, get_or}
use borrow.Author.Tests.{eq-eqb, ne_eqb}
use Rattle.wire.specs.Little.{little_at}
use Rattle.wire.specs.Range.{Bytes}
use Rattle.wire.proofs.Laws.{range}
use Rattle.kinds.specs.Types.{size_of}
use Rattle.kinds.specs.Marks.{is_do_not_use}
use Rattle.refusal.specs.declared.Refusal.{Refusal}
use Rattle.rows.specs.declared.FieldRow.{FieldRow}
use Rattle.rows.specs.Places.{field_of}
use Rattle.table.specs.Lists.{every, pick}
use Rattle.table.specs.Shape.{fields_of}
use Rattle.table.specs.Lookup.{carried}
use Rattle.table.proofs.FieldRows.{fields_pick, fields_past, every_pick}
use Rattle.block.specs.Block.{ends_by}
use Rattle.value.specs.declared.Value.{Value}
use Rattle.value.specs.Said.{unsigned, do_not_use, not_in_revision}
use Rattle.value.specs.Bits.{read_as, value_of, field_value}
use Rattle.record.specs.Answer.{Answers, answer_says}
use Rattle.record.specs.Calls.{field_said}
use Rattle.epoch.specs.Ranges.{unsigned_of, unsigned_at}

-- an unsigned type reads its bits as they are
plain : (kind x : ℕ) → kind ≤ 4 → read_as kind x ≡ unsigned x
unfolding read_as
plain zero x h = refl
plain (suc zero) x h = refl
plain (suc (suc zero)) x h = refl
plain (suc (suc (suc zero))) x h = refl
plain (suc (suc (suc (suc zero)))) x h = refl
plain (suc (suc (suc (suc (suc k))))) x h = absurd (omega arith)

told_below : (c d : Bool) (bits n : ℕ) → bits < n → IfSome (unsigned_of (cond c (cond d do_not_use (unsigned bits)) not_in_revision)) (λ x. x < n)
told_below true true bits n h = tt
told_below true false bits n h = h
told_below false d bits n h = tt

small : (v : ℕ) (s : List ℕ) (f : FieldRow) → f.kind ≤ 4 → Bytes s → IfSome (unsigned_of (field_said v s f)) (λ x. x < 256 ^ size_of f.kind)
unfolding field_said field_value value_of
small v s f h bytes =
    let bits = little_at (size_of f.kind) s f.offset in
    rw (plain f.kind bits h) (told_below (carried v f) (is_do_not_use f.mark f.kind bits) bits _ (range (size_of f.kind) s f.offset bytes))

-- a field of these rows
module _ (rows : List (List ℕ)) (s : List ℕ) (j kind v : ℕ) where
  pub number_out : length rows ≤ j → None ≡ unsigned_at v s kind (pick (fields_of rows) j)
  number_out h = rw (fields_past rows j h)

  module _ (d : List ℕ) {f : FieldRow} (e : f ≡ field_of (get_or rows j d)) (h : j < length rows) where
    there : pick (fields_of rows) j ≡ Some f
    there = fields_pick rows j d h ∙ ap Some (sym e)

    pub number_other : (f.kind ≡ kind → ⊥) → None ≡ unsigned_at v s kind (pick (fields_of rows) j)
    number_other n = rw (there, ne_eqb f.kind kind n)

    pub number_ends : every (ends_by v (length s)) (fields_of rows) ≡ true → ends_by v (length s) f ≡ true
    number_ends a = every_pick (ends_by v (length s)) (fields_of rows) j f a there

    module _ (g : f.kind ≡ kind) {r : Option ℕ} {a : Result Value Refusal} (x : Answers a (field_said v s f)) (b : r ≡ unsigned_of (answer_says a)) where
      said : r ≡ unsigned_of (field_said v s f)
      said = b ∙ ap unsigned_of x.says

      pub number_is : r ≡ unsigned_at v s kind (pick (fields_of rows) j)
      number_is = said ∙ rw (there, eq-eqb f.kind kind g)

      pub number_below : kind ≤ 4 → Bytes s → IfSome r (λ n. n < 256 ^ size_of kind)
      number_below k bytes = rw (said, ← g) (small v s f (rw g k) bytes)
