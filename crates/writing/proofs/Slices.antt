-- Pieces of one length, one after the other: piece k stands behind k of them.
-- Assumes nothing.
use mathlib.Core.List.{List, [], ◌∷◌, ◌++◌, flat_map, append_assoc}
use Rattle.std.proofs.Common.{Some}
use mathlib.Core.Path.{◌≡◌, ap, ◌∙◌}
use Prim.Native.Nat.{ℕ, zero, suc, ◌+◌, ◌*◌}
use native.Mathlib.Nat.{zero-mul, suc-mul}
use native.Mathlib.Omega.{arith}
use lib.ListN.{length, take, drop}
use lib.Seq.{take_at, drop-append-add}
use Rattle.table.specs.Lists.{pick}

module _ {A : Type 0} (f : A → List ℕ) (n : ℕ) (even : (x : A) → length (f x) ≡ n) where
  slice_at : (xs : List A) (rest : List ℕ) (k : ℕ) (x : A) → pick xs k ≡ Some x → take n (drop (k * n) (flat_map f xs ++ rest)) ≡ f x
  unfolding pick flat_map
  slice_at [] rest k x q = cc
  slice_at (y ∷ xs) rest zero x q =
      let same : y ≡ x = cc in
      rw (zero-mul n, append_assoc (f y) (flat_map f xs) rest) (take_at (f y) (flat_map f xs ++ rest) n (even y) ∙ ap f same)
  slice_at (y ∷ xs) rest (suc k) x q =
      let m : suc k * n ≡ length (f y) + k * n = rw (even y) (omega (arith, suc-mul k n)) in
      rw (m, append_assoc (f y) (flat_map f xs) rest, drop-append-add (f y) (flat_map f xs ++ rest) (k * n)) (slice_at xs rest k x q)

  pub slice_behind : (at : ℕ) (pre : List ℕ) → length pre ≡ at → (xs : List A) (rest : List ℕ) (k : ℕ) (x : A) → pick xs k ≡ Some x
      → take n (drop (at + k * n) (pre ++ (flat_map f xs ++ rest))) ≡ f x
  slice_behind at pre e xs rest k x q =
      rw (← e, drop-append-add pre (flat_map f xs ++ rest) (k * n)) (slice_at xs rest k x q)
