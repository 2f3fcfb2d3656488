-- Mark 5: the quotient by 8,192 is 0 exactly below 8,192.
-- Assumes nothing.
use mathlib.Core.Bool.{Bool, true, false}
use mathlib.Core.Path.{◌≡◌, refl, ap}
use Prim.Native.Nat.{ℕ, zero, suc, ◌+◌, ◌*◌, ◌/◌, ◌<◌}
use native.Mathlib.Omega.{arith}
use lib.Dec.{eqb, ltb}
use borrow.Author.Tests.{ltb-true, ltb-false, ne_eqb}
use Rattle.kinds.specs.Marks.{seed, mark_of, is_do_not_use}
use Rattle.kinds.specs.Seed.{earlier_mark, SeedHolds}

below_by : (x : ℕ) (c : Bool) → ltb x 8192 ≡ c → eqb (x / 8192) 0 ≡ c
below_by x true e = let h = ltb-true x 8192 e in let z : x / 8192 ≡ 0 = omega arith in ap (λ (n : ℕ). eqb n 0) z
below_by x false e = let h = ltb-false x 8192 e in ne_eqb (x / 8192) 0 (λ z. omega arith)

by_type_lem : (type low : ℕ) → low < 8192 → eqb ((type * 8192 + low) / 8192) 0 ≡ eqb type 0
by_type_lem type low h = let q : (type * 8192 + low) / 8192 ≡ type = omega arith in ap (λ (n : ℕ). eqb n 0) q

kept : (mark : ℕ) → mark < seed → earlier_mark mark ≡ mark_of mark
kept zero h = refl
kept (suc zero) h = refl
kept (suc (suc zero)) h = refl
kept (suc (suc (suc zero))) h = refl
kept (suc (suc (suc (suc zero)))) h = refl
kept (suc (suc (suc (suc (suc m))))) h = absurd (omega arith)

pub seed_holds : SeedHolds
unfolding is_do_not_use
seed_holds =
    record {
      below = λ x. below_by x (ltb x 8192) refl;
      by_type = by_type_lem;
      refused = λ kind. refl;
      kept = kept;
    }
