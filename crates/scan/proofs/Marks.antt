-- The bytes passed, counted, and how many had to be taken for them: laws of the two folds.
-- Assumes nothing.
use mathlib.Core.Path.{◌≡◌, refl, sym, ap, ap₂, ◌∙◌}
use mathlib.Core.List.{List, [], ◌∷◌, ◌++◌}
use Prim.Native.Nat.{ℕ, zero, suc, max, ◌+◌, ◌≤◌}
use native.Mathlib.Nat.{add-zero, zero-add}
use native.Mathlib.Omega.{arith}
use lib.ListN.{length, replicate}
use Rattle.scan.specs.Settle.{Settled, settle_by, settle}
use Rattle.scan.specs.Passed.{nothing_passed, count, count_all, passed_of}
use Rattle.scan.specs.Scan.{raised, needed}
use Rattle.frame.specs.declared.Reason.{Reason}
use Rattle.frame.specs.declared.Reason.TheVariants.{NoSync, LengthNotAllowed, CrcWrong, FewLeft, PastEnd}
use Rattle.frame.specs.declared.Verdict.{Verdict}
use Rattle.frame.specs.declared.Verdict.TheVariants.{NoFrame, Frame, Undecided}
use Rattle.scan.specs.declared.Passed.{Passed}
use types.Run.{OneOf, miss}
use denote.Enum.Declared.{tag_of}
use Rattle.frame.specs.contracts.Reason.{the_type}
use Rattle.scan.proofs.Judging.{FitsFor, Fits}

pub count_all_append : (a : Passed) (xs ys : List Reason) → count_all a (xs ++ ys) ≡ count_all (count_all a xs) ys
unfolding count_all
count_all_append a [] ys = refl
count_all_append a (r ∷ xs) ys = count_all_append (count a r) xs ys

pub count_all_skipped : (a : Passed) (xs : List Reason) → (count_all a xs).skipped ≡ a.skipped + length xs
unfolding count_all
count_all_skipped a [] = sym (add-zero a.skipped)
count_all_skipped a (r ∷ xs) = omega (arith, count_all_skipped (count a r) xs)

-- the skipped count is the length of the list
pub passed_of_skipped : (xs : List Reason) → (passed_of xs).skipped ≡ length xs
passed_of_skipped xs = count_all_skipped nothing_passed xs ∙ zero-add (length xs)

-- places without a sync pair are counted at once
pub count_all_same : (n : ℕ) (a : Passed) (r : Reason) → count_all a (replicate n r) ≡ record { skipped = a.skipped + n }
unfolding count_all
count_all_same zero a r = ap (λ (i : ℕ). record { skipped = i }) (sym (add-zero a.skipped))
count_all_same (suc n) a r =
    let e : a.skipped + 1 + n ≡ a.skipped + suc n = omega arith in
    count_all_same n (count a r) r ∙ ap (λ (i : ℕ). record { skipped = i }) e

-- ---- marks

raised_max : (r : Reason) (p m : ℕ) → raised r p m ≡ max m (raised r p 0)
raised_max NoSync p m = omega arith
raised_max LengthNotAllowed p m = omega arith
raised_max (CrcWrong n) p m = omega arith
raised_max FewLeft p m = omega arith
raised_max PastEnd p m = omega arith

pub marks_max : (rs : List Reason) (p m : ℕ) → needed p m rs ≡ max m (needed p 0 rs)
unfolding needed
marks_max [] p m = omega arith
marks_max (r ∷ rs) p m = omega (arith, marks_max rs (p + 1) (raised r p m), marks_max rs (p + 1) (raised r p 0), raised_max r p m)

raised_shift : (r : Reason) (s p m : ℕ) → raised r (s + p) (s + m) ≡ s + raised r p m
raised_shift NoSync s p m = refl
raised_shift LengthNotAllowed s p m = refl
raised_shift (CrcWrong n) s p m = omega arith
raised_shift FewLeft s p m = refl
raised_shift PastEnd s p m = refl

pub marks_shift : (rs : List Reason) (s p m : ℕ) → needed (s + p) (s + m) rs ≡ s + needed p m rs
unfolding needed
marks_shift [] s p m = refl
marks_shift (r ∷ rs) s p m =
    let e : s + p + 1 ≡ s + (p + 1) = omega arith in
    ap₂ (λ (i k : ℕ). needed i k rs) e (raised_shift r s p m) ∙ marks_shift rs s (p + 1) (raised r p m)

pub marks_append : (xs ys : List Reason) (p m : ℕ) → needed p m (xs ++ ys) ≡ needed (p + length xs) (needed p m xs) ys
unfolding needed
marks_append [] ys p m = ap (λ (i : ℕ). needed i m ys) (sym (add-zero p))
marks_append (r ∷ xs) ys p m =
    let e : p + 1 + length xs ≡ p + suc (length xs) = omega arith in
    marks_append xs ys (p + 1) (raised r p m) ∙ ap (λ (i : ℕ). needed i (needed (p + 1) (raised r p m) xs) ys) e

-- what is passed with the bytes that are there raises no mark past them
module _ (judge : List ℕ → Verdict) (fits : (v : List ℕ) → Fits v (judge v)) where
  low : (r : Reason) (v : List ℕ) (p m : ℕ) → FitsFor v r → p + length v ≤ m → raised r p m ≡ m
  low NoSync v p m f l = refl
  low LengthNotAllowed v p m f l = refl
  low (CrcWrong n) v p m f l = omega (arith, f.within)
  low FewLeft v p m f l = refl
  low PastEnd v p m f l = refl

  low_by : (x : Verdict) (b : ℕ) (bs : List ℕ) (next : Settled) (p m : ℕ) → Fits (b ∷ bs) x → p + suc (length bs) ≤ m
      → needed (p + 1) m next.passed ≡ m → needed p m (settle_by x (b ∷ bs) next).passed ≡ m
  unfolding needed
  low_by (NoFrame r) b bs next p m f l rec = ap (λ (k : ℕ). needed (p + 1) k next.passed) (low r (b ∷ bs) p m f l) ∙ rec
  low_by (Frame n) b bs next p m f l rec = refl
  low_by Undecided b bs next p m f l rec = refl

  pub marks_low : (h : List ℕ) (p m : ℕ) → p + length h ≤ m → needed p m (settle judge h).passed ≡ m
  unfolding settle needed
  marks_low [] p m l = refl
  marks_low (b ∷ bs) p m l =
      low_by (judge (b ∷ bs)) b bs (settle judge bs) p m (fits (b ∷ bs)) l (marks_low bs (p + 1) m (omega arith))

-- ---- a reason that is none of a wrong CRC raises no mark

abbrev unmarked : List ℕ
unmarked = 0 ∷ 1 ∷ 3 ∷ 4 ∷ []

pub no_mark : (r : Reason) → OneOf unmarked (tag_of the_type r) → (p m : ℕ) → raised r p m ≡ m
no_mark NoSync h p m = refl
no_mark LengthNotAllowed h p m = refl
no_mark (CrcWrong n) h p m = absurd (miss unmarked 2 tt h)
no_mark FewLeft h p m = refl
no_mark PastEnd h p m = refl
