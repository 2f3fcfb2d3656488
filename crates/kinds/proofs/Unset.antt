-- What an unset field is written with reads as Do-Not-Use: antt computes the test at every type and mark.
-- Assumes nothing.
use mathlib.Core.Bool.{Bool, true, false, ◌&&◌, cond}
use Rattle.std.proofs.Common.{Option, None, Some}
use mathlib.Core.Path.{◌≡◌, refl, ap, ◌∙◌, subst}
use Prim.Native.Nat.{ℕ, ◌^◌, ◌<◌}
use native.Mathlib.Omega.{arith}
use lib.Dec.{leb, ltb, eqb}
use borrow.Author.Tests.{leb-true, leb-false, ltb-true, eqb-true}
use Rattle.kinds.specs.Types.{size_of, listed}
use Rattle.kinds.specs.Marks.{unmarked, mark_fits, is_do_not_use, unset_of, ReadsUnset, UnsetIsTold}
use Rattle.kinds.proofs.Below.{both, all_below, at}
use Rattle.kinds.proofs.Marks.{fits_none}

abbrev reads : ℕ → ℕ → Option ℕ → Bool
reads mark kind None = eqb mark unmarked
reads mark kind (Some bits) = ltb bits (256 ^ size_of kind) && is_do_not_use mark kind bits

abbrev right : ℕ → ℕ → Bool
right kind mark = cond (listed kind && mark_fits kind mark) (reads mark kind (unset_of mark kind)) true

abbrev right_all : ℕ → Bool
right_all kind = all_below (right kind) 6

all_right : all_below right_all 11 ≡ true
unfolding size_of mark_fits is_do_not_use unset_of
all_right = refl

reads-it : (mark kind : ℕ) (o : Option ℕ) → reads mark kind o ≡ true → ReadsUnset mark kind o
reads-it mark kind None e = eqb-true mark unmarked e
reads-it mark kind (Some bits) e =
    let b = both (ltb bits (256 ^ size_of kind)) (is_do_not_use mark kind bits) e in
    (ltb-true bits (256 ^ size_of kind) b.0, b.1)

premise : (a b c : Bool) → a ≡ true → b ≡ true → cond (a && b) c true ≡ true → c ≡ true
premise a b c p q e =
    subst (λ (y : Bool). cond y c true ≡ true) q (subst (λ (x : Bool). cond (x && b) c true ≡ true) p e)

-- a mark that fits is listed
few : (kind mark : ℕ) (c : Bool) → leb mark 5 ≡ c → mark_fits kind mark ≡ true → mark < 6
few kind mark true e f = let l = leb-true mark 5 e in omega arith
few kind mark false e f =
    let z : ◌≡◌ {A = ℕ} 0 1 = ap (λ (b : Bool). cond b 1 0) (fits_none kind mark (leb-false mark 5 e) ∙ f) in
    omega arith

pub unset_is_told : UnsetIsTold
unset_is_told kind mark l f =
    let k = leb-true kind 10 (both (leb 1 kind) (leb kind 10) l).1 in
    let h : kind < 11 = omega arith in
    let e = at (right kind) 6 (at right_all 11 all_right kind h) mark (few kind mark (leb mark 5) refl f) in
    reads-it mark kind (unset_of mark kind) (premise (listed kind) (mark_fits kind mark) (reads mark kind (unset_of mark kind)) l f e)
