-- What may be wanted of a field, and of the values that are left in a list.
-- Assumes nothing.
use mathlib.Core.Bool.{Bool}
use mathlib.Core.List.{List, []}
use Rattle.std.proofs.Common.{None, Some}
use mathlib.Core.Path.{◌≡◌, sym, subst, ◌∙◌}
use Prim.Native.Nat.{ℕ, ◌+◌, ◌≤◌, ◌<◌}
use native.Mathlib.Omega.{arith}
use lib.Dec.{leb-zero}
use lib.ListN.{length, get_or}
use borrow.Author.Tests.{le-leb, lt-leb, ne_eqb}
use Rattle.rows.specs.declared.FieldRow.{FieldRow}
use Rattle.table.specs.Lists.{every, is_some}
use Rattle.entry.specs.Wanted.{Wanted, is_unset, begins}
use Rattle.entry.specs.Bits.{bits_of, wanted_ok}
use Rattle.entry.proofs.Fits.{unset_by_kind}
use Rattle.entry.proofs.Places.{values_end, values_stop, values_go, subs_go}
use Rattle.draft.specs.Code.{values_from, subs_from, Resting}

-- a field
module _ (revision : ℕ) (f : FieldRow) (w : Wanted) where
  pub wanted_carried : f.first ≤ revision → {b : Bool} → b ≡ is_some (bits_of f w) → b ≡ wanted_ok revision f w
  unfolding wanted_ok
  wanted_carried h e = rw (le-leb f.first revision h) e

  pub wanted_not_carried : revision < f.first → is_unset w ≡ wanted_ok revision f w
  unfolding wanted_ok
  wanted_not_carried h = rw (lt-leb f.first revision h)

  -- every revision carries a field of revision 0
  pub wanted_always : f.first ≡ 0 → wanted_ok 0 f w ≡ wanted_ok revision f w
  unfolding wanted_ok
  wanted_always e = rw (e, leb-zero revision)

-- p and i stand in one list, and from p to i all is unset
pub record Passed (kinds bits : List ℕ) (p i : ℕ) : Type 0 where
  pub unset : every is_unset (values_from kinds bits i) ≡ every is_unset (values_from kinds bits p)
  pub subs : subs_from kinds bits i ≡ subs_from kinds bits p

module _ (kinds : List ℕ) (p i : ℕ) (on : p ≤ i) (inside : i ≤ length kinds) (all : (bits : List ℕ) → Passed kinds bits p i) where
  -- the list has ended
  stopped : ((bits : List ℕ) → values_from kinds bits i ≡ []) → Resting kinds p (Some i)
  unfolding every
  stopped e =
      record {
        is = λ bits. rw (← (all bits).unset, e bits);
        left = λ bits. record { onward = on; within = inside; stops = e bits; subs = (all bits).subs };
      }

  pub rest_ends : length kinds ≤ i → Resting kinds p (Some (length kinds))
  rest_ends h =
      let e : i ≡ length kinds = omega arith in
      subst (λ (n : ℕ). Resting kinds p (Some n)) e (stopped (λ bits. values_end kinds bits i h))

  module _ (h : i < length kinds) where
    -- a sub-block begins, or a value stands that is not unset
    pub rest_begins : get_or kinds i 0 ≡ begins → Resting kinds p (Some i)
    rest_begins e = stopped (λ bits. values_stop kinds bits i h e)

    pub rest_set : (get_or kinds i 0 ≡ 0 → ⊥) → (get_or kinds i 0 ≡ begins → ⊥) → Resting kinds p None
    unfolding every
    rest_set z e =
        record {
          is = λ bits. rw (← (all bits).unset, values_go kinds bits i h e, unset_by_kind (get_or kinds i 0) (get_or bits i 0), ne_eqb (get_or kinds i 0) 0 z);
          left = λ bits. tt;
        }

    pub rest_goes : get_or kinds i 0 ≡ 0 → (bits : List ℕ) → Passed kinds bits p (i + 1)
    unfolding every
    rest_goes z bits =
        let e : get_or kinds i 0 ≡ begins → ⊥ = omega arith in
        record {
          unset = sym (rw (← (all bits).unset, values_go kinds bits i h e, unset_by_kind (get_or kinds i 0) (get_or bits i 0), z));
          subs = sym (subs_go kinds bits i h e) ∙ (all bits).subs;
        }
