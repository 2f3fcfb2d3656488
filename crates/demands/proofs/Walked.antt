-- T21: the walk over a block of two levels, told by where each first-level sub-block starts.
-- Assumes nothing.
use Prim.Native.Nat.{ℕ, zero, suc, ◌+◌, ◌≤◌, ◌<◌}
use native.Mathlib.Nat.{add-zero, zero-add, not-suc-le-zero}
use native.Mathlib.Omega.{arith}
use mathlib.Core.Path.{◌≡◌, refl, ap, ◌∙◌}
use mathlib.Core.Bool.{true, false, not}
use mathlib.Core.List.{List}
use Rattle.std.proofs.Common.{Some}
use lib.Dec.{ltb}
use borrow.Author.Tests.{ltb-true, ltb-false, not-true, not-false}
use Rattle.wire.proofs.Tests.{bool?, eq?, never, neither_left, neither_right}
use Rattle.table.specs.Lists.{pick}
use Rattle.table.specs.Rows.{BlockRow, nested_row}
use Rattle.walk.specs.Walk.{nest_at, walk_from, walk_over, walk_end, any_second}
use Rattle.block.specs.Block.{offset_of, walk_of}
use Rattle.demands.specs.Refusals.{N, start_of, N2}
use Rattle.demands.proofs.Exact.{Tells}

module _ (r : BlockRow) (b : List ℕ) where
  -- from first-level sub-block i on, n of them
  end_from : (i n : ℕ) → walk_end (start_of r b i) (walk_from (offset_of (nested_row r)) b (start_of r b i) n) ≡ start_of r b (i + n)
  unfolding walk_from walk_end
  end_from i zero = rw (add-zero i)
  end_from i (suc n) = let m : suc i + n ≡ i + suc n = omega arith in end_from (suc i) n ∙ ap (start_of r b) m

  pick_from : (i n k : ℕ) → k < n
      → pick (walk_from (offset_of (nested_row r)) b (start_of r b i) n) k ≡ Some (nest_at (offset_of (nested_row r)) b (start_of r b (i + k)))
  unfolding walk_from pick
  pick_from i zero k h = absurd (not-suc-le-zero h)
  pick_from i (suc n) zero h = rw (add-zero i)
  pick_from i (suc n) (suc k) h = let m : suc i + k ≡ i + suc k = omega arith in rw (← m) (pick_from (suc i) n k (omega arith))

  -- one of them has nested ones
  abbrev SomeFrom : ℕ → ℕ → Type 0
  SomeFrom i n = (k : ℕ) × ((i ≤ k) × ((k < i + n) × (0 < N2 r b k)))

  none_from : (i n : ℕ) → any_second (walk_from (offset_of (nested_row r)) b (start_of r b i) n) ≡ false → (k : ℕ) → i ≤ k → k < i + n → 0 < N2 r b k → ⊥
  unfolding walk_from any_second
  none_from i zero e k l h g = omega arith
  none_from i (suc n) e k l h g =
      eq? i k
      (λ q. let z = ltb-false 0 (N2 r b i) (neither_left (ltb 0 (N2 r b i)) _ e) in let y : N2 r b i ≡ N2 r b k = ap (N2 r b) q in omega (arith, z, y, g))
      (λ q. none_from (suc i) n (neither_right (ltb 0 (N2 r b i)) _ e) k (omega (arith, q)) (omega arith) g)

  some_from : (i n : ℕ) → any_second (walk_from (offset_of (nested_row r)) b (start_of r b i) n) ≡ true → SomeFrom i n
  unfolding walk_from any_second
  some_from i zero e = never e refl
  some_from i (suc n) e =
      bool? (ltb 0 (N2 r b i))
      (λ q. (i, (omega arith, (omega arith, ltb-true 0 (N2 r b i) q))))
      (λ q. let h = some_from (suc i) n (rw q at e) in (h.0, (omega (arith, h.1.0), (omega (arith, h.1.1.0), h.1.1.1))))

  -- the whole walk
  pub ends_at : walk_end 20 (walk_of r b) ≡ start_of r b (N b)
  unfolding walk_over
  ends_at = end_from 0 (N b) ∙ ap (start_of r b) (zero-add (N b))

  pub stands_at : (k : ℕ) → k < N b → pick (walk_of r b) k ≡ Some (nest_at (offset_of (nested_row r)) b (start_of r b k))
  unfolding walk_over
  stands_at k h = pick_from 0 (N b) k h ∙ ap (λ (i : ℕ). Some (nest_at (offset_of (nested_row r)) b (start_of r b i))) (zero-add k)

  pub any_tells : Tells (not (any_second (walk_of r b))) ((k : ℕ) × ((k < N b) × (0 < N2 r b k)))
  unfolding walk_over
  any_tells =
      record {
        fine = λ e g. none_from 0 (N b) (not-true (any_second (walk_of r b)) e) g.0 (omega arith) (omega (arith, g.1.0)) g.1.1;
        holds = λ e. let h = some_from 0 (N b) (not-false (any_second (walk_of r b)) e) in (h.0, (omega (arith, h.1.1.0), h.1.1.1));
      }
