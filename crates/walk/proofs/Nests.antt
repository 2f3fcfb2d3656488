-- What is known of a first-level sub-block that a walk comes to: its lengths, that it ends by the walk's end, and that where it has nested
-- ones the second level has any.
-- Assumes nothing.
use mathlib.Core.Bool.{Bool, true, false, ◌||◌}
use mathlib.Core.List.{List}
use Rattle.std.proofs.Common.{None}
use mathlib.Core.Path.{◌≡◌, refl, ap}
use Prim.Native.Nat.{ℕ, zero, suc, ◌≤◌, ◌<◌}
use native.Mathlib.Nat.{not-suc-le-zero, le_refl}
use native.Mathlib.Omega.{arith}
use lib.Dec.{ltb}
use borrow.Author.Tests.{lt-ltb}
use Rattle.table.specs.Lists.{pick}
use Rattle.walk.specs.declared.Nest.{Nest}
use Rattle.walk.specs.Walk.{count_in, sub_length_in, second_length_in, nest_at, nest_end, walk_from, walk_over, walk_end, any_second, no_nest, nest_or}

pub record Come (b : List ℕ) (end : ℕ) (any : Bool) (n : Nest) : Type 0 where
  pub size : n.first.size ≡ sub_length_in b
  pub nested : n.size ≡ second_length_in b
  pub by : nest_end n ≤ end
  pub some_nested : 0 < n.count → any ≡ true

module _ (n2 : ℕ) (b : List ℕ) where
  -- a walk does not end before its start
  on : (at n : ℕ) → at ≤ walk_end at (walk_from n2 b at n)
  unfolding walk_from walk_end
  on at zero = le_refl at
  on at (suc n) = let e = on (nest_end (nest_at n2 b at)) n in omega (arith, e)

  or_true : (x y : Bool) → y ≡ true → (x || y) ≡ true
  or_true true y e = refl
  or_true false y e = e

  come : (at n k : ℕ) → k < n → Come b (walk_end at (walk_from n2 b at n)) (any_second (walk_from n2 b at n)) (nest_or (pick (walk_from n2 b at n) k))
  unfolding walk_from walk_end any_second pick
  come at zero k h = absurd (not-suc-le-zero h)
  come at (suc n) zero h =
      record {
        size = refl;
        nested = refl;
        by = on (nest_end (nest_at n2 b at)) n;
        some_nested = λ l. rw (lt-ltb 0 (nest_at n2 b at).count l);
      }
  come at (suc n) (suc k) h =
      let c = come (nest_end (nest_at n2 b at)) n k (omega arith) in
      record {
        size = c.size;
        nested = c.nested;
        by = c.by;
        some_nested = λ l. or_true (ltb 0 (nest_at n2 b at).count) (any_second (walk_from n2 b (nest_end (nest_at n2 b at)) n)) (c.some_nested l);
      }

  pub come_to : (k : ℕ) → k < count_in b → Come b (walk_end 20 (walk_over n2 b)) (any_second (walk_over n2 b)) (nest_or (pick (walk_over n2 b) k))
  unfolding walk_over
  come_to k h = come 20 (count_in b) k h

  -- where there is no such one, nothing is nested
  gone : (at n k : ℕ) → n ≤ k → pick (walk_from n2 b at n) k ≡ None
  unfolding walk_from pick
  gone at zero k h = refl
  gone at (suc n) zero h = absurd (not-suc-le-zero h)
  gone at (suc n) (suc k) h = gone (nest_end (nest_at n2 b at)) n k (omega arith)

  pub none_there : (k : ℕ) → count_in b ≤ k → nest_or (pick (walk_over n2 b) k) ≡ no_nest
  unfolding walk_over
  none_there k h = ap nest_or (gone 20 (count_in b) k h)
