-- The places passed, counted: laws of the fold over reasons, and of each cause.
-- Assumes nothing.
use mathlib.Core.Path.{◌≡◌, refl, sym, ap, ap₂, ◌∙◌}
use mathlib.Core.List.{List, [], ◌∷◌, ◌++◌}
use Prim.Native.Nat.{ℕ, zero, suc, ◌+◌, ◌≤◌}
use native.Mathlib.Nat.{add-zero, zero-add}
use native.Mathlib.Omega.{arith}
use lib.ListN.{length, replicate}
use Rattle.frame.specs.declared.Reason.{Reason}
use Rattle.frame.specs.declared.Reason.TheVariants.{NoSync, LengthNotAllowed, CrcWrong, FewLeft, PastEnd}
use Rattle.causes.specs.Passed.{nothing_passed, each, count, count_all, passed_of}
use Rattle.causes.specs.Causes.{Cause, few, badlen, past, badcrc, passed_for, says, how_many}
use Rattle.causes.specs.Code.{UnderSkipped}
use Rattle.causes.specs.declared.Passed.{Passed}

pub count_all_append : (a : Passed) (xs ys : List Reason) → count_all a (xs ++ ys) ≡ count_all (count_all a xs) ys
unfolding count_all
count_all_append a [] ys = refl
count_all_append a (r ∷ xs) ys = count_all_append (count a r) xs ys

pub each_one : (r : Reason) → (each r).skipped ≡ 1
each_one NoSync = refl
each_one LengthNotAllowed = refl
each_one (CrcWrong n) = refl
each_one FewLeft = refl
each_one PastEnd = refl

pub count_skipped : (a : Passed) (r : Reason) → (count a r).skipped ≡ a.skipped + 1
count_skipped a r = ap (λ (i : ℕ). a.skipped + i) (each_one r)

pub count_all_skipped : (a : Passed) (xs : List Reason) → (count_all a xs).skipped ≡ a.skipped + length xs
unfolding count_all
count_all_skipped a [] = sym (add-zero a.skipped)
count_all_skipped a (r ∷ xs) = omega (arith, count_all_skipped (count a r) xs, each_one r)

-- the skipped count is the length of the list
pub passed_of_skipped : (xs : List Reason) → (passed_of xs).skipped ≡ length xs
passed_of_skipped xs = count_all_skipped nothing_passed xs ∙ zero-add (length xs)

-- places without a sync pair are counted at once
pub count_all_no_sync : (n : ℕ) (a : Passed)
    → count_all a (replicate n NoSync) ≡ record { skipped = a.skipped + n; few = a.few; badlen = a.badlen; past = a.past; badcrc = a.badcrc }
unfolding count_all
count_all_no_sync zero a =
    ap (λ (i : ℕ). record { skipped = i; few = a.few; badlen = a.badlen; past = a.past; badcrc = a.badcrc }) (sym (add-zero a.skipped))
count_all_no_sync (suc n) a =
    let e : a.skipped + 1 + n ≡ a.skipped + suc n = omega arith in
    count_all_no_sync n (count a NoSync)
    ∙ ap₂ (λ (i j : ℕ). record { skipped = i; few = j; badlen = a.badlen + 0; past = a.past + 0; badcrc = a.badcrc + 0 }) e (add-zero a.few)
    ∙ ap₂ (λ (i j : ℕ). record { skipped = a.skipped + suc n; few = a.few; badlen = i; past = j; badcrc = a.badcrc + 0 }) (add-zero a.badlen) (add-zero a.past)
    ∙ ap (λ (i : ℕ). record { skipped = a.skipped + suc n; few = a.few; badlen = a.badlen; past = a.past; badcrc = i }) (add-zero a.badcrc)

-- ---- causes

-- counting for a cause
pub count_for : (k : Cause) (a : Passed) (r : Reason) → passed_for k (count a r) ≡ passed_for k a + says k r
count_for few a r = refl
count_for badlen a r = refl
count_for past a r = refl
count_for badcrc a r = refl

pub count_all_for : (k : Cause) (a : Passed) (xs : List Reason) → passed_for k (count_all a xs) ≡ passed_for k a + how_many k xs
unfolding count_all how_many
count_all_for k a [] = sym (add-zero (passed_for k a))
count_all_for k a (r ∷ xs) = omega (arith, count_all_for k (count a r) xs, count_for k a r)

nothing_for : (k : Cause) → passed_for k nothing_passed ≡ 0
nothing_for few = refl
nothing_for badlen = refl
nothing_for past = refl
nothing_for badcrc = refl

-- what is passed for a cause is the fold over the reasons
pub passed_of_for : (k : Cause) (xs : List Reason) → passed_for k (passed_of xs) ≡ how_many k xs
passed_of_for k xs = count_all_for k nothing_passed xs ∙ ap (λ (i : ℕ). i + how_many k xs) (nothing_for k) ∙ zero-add (how_many k xs)

-- all of it, in one record
pub passed_of_is : (xs : List Reason)
    → passed_of xs ≡ record { skipped = length xs; few = how_many few xs; badlen = how_many badlen xs; past = how_many past xs; badcrc = how_many badcrc xs }
passed_of_is xs =
    let p = passed_of xs in
    ap₂ (λ (i j : ℕ). record { skipped = i; few = j; badlen = p.badlen; past = p.past; badcrc = p.badcrc }) (passed_of_skipped xs) (passed_of_for few xs)
    ∙ ap₂ (λ (i j : ℕ). record { skipped = length xs; few = how_many few xs; badlen = i; past = j; badcrc = p.badcrc }) (passed_of_for badlen xs) (passed_of_for past xs)
    ∙ ap (λ (i : ℕ). record { skipped = length xs; few = how_many few xs; badlen = how_many badlen xs; past = how_many past xs; badcrc = i }) (passed_of_for badcrc xs)

-- a place is counted at most once
says_once : (r : Reason) → says few r + says badlen r + says past r + says badcrc r ≤ 1
says_once NoSync = omega arith
says_once LengthNotAllowed = omega arith
says_once (CrcWrong n) = omega arith
says_once FewLeft = omega arith
says_once PastEnd = omega arith

pub says_least : (k : Cause) (r : Reason) → says k r ≤ 1
says_least few r = omega (arith, says_once r)
says_least badlen r = omega (arith, says_once r)
says_least past r = omega (arith, says_once r)
says_least badcrc r = omega (arith, says_once r)

pub how_many_once : (xs : List Reason) → how_many few xs + how_many badlen xs + how_many past xs + how_many badcrc xs ≤ length xs
unfolding how_many
how_many_once [] = omega arith
how_many_once (r ∷ xs) = omega (arith, says_once r, how_many_once xs)

pub how_many_least : (k : Cause) (xs : List Reason) → how_many k xs ≤ length xs
how_many_least few xs = omega (arith, how_many_once xs)
how_many_least badlen xs = omega (arith, how_many_once xs)
how_many_least past xs = omega (arith, how_many_once xs)
how_many_least badcrc xs = omega (arith, how_many_once xs)

pub nothing_under : UnderSkipped nothing_passed
nothing_under = record { cause = λ k. omega (arith, nothing_for k) }

pub count_under : (a : Passed) (r : Reason) → UnderSkipped a → UnderSkipped (count a r)
count_under a r u = record { cause = λ k. omega (arith, count_for k a r, count_skipped a r, says_least k r, u.cause k) }

pub count_all_under : (a : Passed) (xs : List Reason) → UnderSkipped a → UnderSkipped (count_all a xs)
count_all_under a xs u =
    record { cause = λ k. omega (arith, count_all_for k a xs, count_all_skipped a xs, how_many_least k xs, u.cause k) }
