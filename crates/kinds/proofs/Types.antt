-- The sizes of the types, by their one table.
-- Assumes nothing.
use mathlib.Core.Bool.{Bool, true, false}
use mathlib.Core.Path.{◌≡◌, refl, sym, ap, ◌∙◌}
use Prim.Native.Nat.{ℕ, suc, ◌-◌, ◌<◌, ◌≤◌}
use native.Mathlib.Omega.{arith}
use lib.Dec.{leb}
use lib.ListN.{get_or-eq_default}
use borrow.Author.Tests.{leb-true, leb-false}
use Rattle.kinds.specs.Types.{sizes, size_of}
use Rattle.kinds.proofs.Below.{all_below, at}

size_over : (kind : ℕ) → 10 < kind → 0 ≡ size_of kind
unfolding size_of
size_over kind h =
    let e : kind ≡ suc (kind - 1) = omega arith in
    sym (ap size_of e ∙ get_or-eq_default sizes 0 {n = kind - 1} (omega arith))

abbrev small : ℕ → Bool
small kind = leb (size_of kind) 8

all_small : all_below small 11 ≡ true
unfolding size_of
all_small = refl

size-by : (kind : ℕ) (c : Bool) → leb kind 10 ≡ c → size_of kind ≤ 8
size-by kind true e = let l = leb-true kind 10 e in leb-true (size_of kind) 8 (at small 11 all_small kind (omega arith))
size-by kind false e = let z = size_over kind (leb-false kind 10 e) in omega arith

pub size_most : (kind : ℕ) → size_of kind ≤ 8
size_most kind = size-by kind (leb kind 10) refl
