-- `judged` is a judge as runs ask for, and the judge of the run's end finds frames as it does.
-- Assumes nothing.
use mathlib.Core.Path.{◌≡◌, refl, sym, ap, ap₂, ◌∙◌, subst⁻¹}
use mathlib.Core.List.{List, [], ◌++◌}
use mathlib.Core.Bool.{Bool, true, false, cond}
use Prim.Native.Nat.{ℕ, ◌+◌, ◌≤◌, ◌<◌}
use native.Mathlib.Omega.{arith}
use lib.ListN.{length, take, drop, get_or, length-append, get_or-append}
use lib.Seq.{take-append-le}
use lib.Dec.{ltb, eqb}
use Rattle.crc.specs.Crc.{crc_of}
use Rattle.wire.specs.Little.{little_at}
use Rattle.wire.proofs.Laws as little
use Rattle.frame.specs.Frame.{length_at, allowed, crc_right}
use Rattle.frame.specs.Judge.{judged, last_by, judged_last}
use Rattle.frame.specs.declared.Reason.TheVariants.{NoSync, CrcWrong, FewLeft, PastEnd}
use Rattle.frame.specs.declared.Verdict.{Verdict}
use Rattle.frame.specs.declared.Verdict.TheVariants.{NoFrame, Frame, Undecided}
use Rattle.wire.proofs.Tests.{bool?, lt?}
use Rattle.frame.proofs.Cases.{empty, sync0, sync1, bad_length, part, good, bad}
use Rattle.frame.proofs.View.{Head, allows, View, waits_head, waits_body, at_sync0, at_sync1, at_length, at_bad, at_good, view}
use Rattle.scan.proofs.Judging.{FitsFor, Fits, bytes_needed, Judging}

-- ---- what is read of the first bytes is read of them with more behind

module _ (c : ℕ) (xs ys : List ℕ) where
  long : length (xs ++ ys) ≡ length xs + length ys
  long = length-append xs ys

  byte : (i : ℕ) → i < length xs → get_or (xs ++ ys) i 0 ≡ get_or xs i 0
  byte i l = get_or-append xs ys 0 i l

  two : (i : ℕ) → i + 2 ≤ length xs → little_at 2 (xs ++ ys) i ≡ little_at 2 xs i
  two i l = little.agree 2 (xs ++ ys) xs i i (λ d h. byte (i + d) (omega arith))

  module _ (h : Head xs) where
    length_same : length_at (xs ++ ys) 0 ≡ length_at xs 0
    length_same = two 6 h.eight

    allowed_same : {b : Bool} → allowed c (length_at xs 0) ≡ b → allowed c (length_at (xs ++ ys) 0) ≡ b
    allowed_same a = ap (allowed c) length_same ∙ a

    crc_same : length_at xs 0 ≤ length xs → crc_right (xs ++ ys) 0 ≡ crc_right xs 0
    unfolding crc_right
    crc_same l =
        let n : 0 + length_at xs 0 ≤ length xs = omega arith in
        ap₂ (λ (x y : ℕ). eqb x y) (two 2 (omega (arith, h.eight)))
        (ap (λ (x : ℕ). crc_of (drop 4 (take (0 + x) (xs ++ ys)))) length_same
        ∙ ap (λ (x : List ℕ). crc_of (drop 4 x)) (take-append-le (0 + length_at xs 0) xs ys n))

    eight : 8 ≤ length (xs ++ ys)
    eight = omega (arith, long, h.eight)

    first : get_or (xs ++ ys) 0 0 ≡ 0x24
    first = byte 0 (omega (arith, h.eight)) ∙ h.first

    second : get_or (xs ++ ys) 1 0 ≡ 0x40
    second = byte 1 (omega (arith, h.eight)) ∙ h.second

    -- with a length that is allowed
    module _ (ok : allowed c (length_at xs 0) ≡ true) where
      part_on : length (xs ++ ys) < length_at xs 0 → judged c (xs ++ ys) ≡ Undecided
      part_on l = part c (xs ++ ys) (omega (arith, eight)) first second eight (allowed_same ok) (rw length_same l)

      good_on : length_at xs 0 ≤ length (xs ++ ys) → crc_right (xs ++ ys) 0 ≡ true → judged c (xs ++ ys) ≡ Frame (length_at xs 0)
      good_on l q = good c (xs ++ ys) (omega (arith, eight)) first second eight (allowed_same ok) (rw length_same l) q ∙ ap Frame length_same

      bad_on : length_at xs 0 ≤ length (xs ++ ys) → crc_right (xs ++ ys) 0 ≡ false → judged c (xs ++ ys) ≡ NoFrame (CrcWrong (length_at xs 0))
      bad_on l q =
          bad c (xs ++ ys) (omega (arith, eight)) first second eight (allowed_same ok) (rw length_same l) q
          ∙ ap (λ (n : ℕ). NoFrame (CrcWrong n)) length_same

  stays_of : {x : Verdict} → View c xs x → (x ≡ Undecided → ⊥) → judged c (xs ++ ys) ≡ x
  stays_of (waits_head h f s) n = absurd (n refl)
  stays_of (waits_body h a l) n = absurd (n refl)
  stays_of (at_sync0 l a) n = sync0 c (xs ++ ys) (omega (arith, long)) (λ q. a (sym (byte 0 l) ∙ q))
  stays_of (at_sync1 l a b) n =
      sync1 c (xs ++ ys) (omega (arith, long)) (byte 0 (omega arith) ∙ a) (λ q. b (sym (byte 1 l) ∙ q))
  stays_of (at_length h a) n = bad_length c (xs ++ ys) (omega (arith, eight h)) (first h) (second h) (eight h) (allowed_same h a)
  stays_of (at_bad h a l q) n = bad_on h a (omega (arith, long)) (crc_same h l ∙ q)
  stays_of (at_good h a l q) n = good_on h a (omega (arith, long)) (crc_same h l ∙ q)

need_of : (c : ℕ) (v : List ℕ) {x : Verdict} → View c v x → 8 ≤ bytes_needed x
need_of c v (waits_head h f s) = omega arith
need_of c v (waits_body h a l) = omega arith
need_of c v (at_sync0 l a) = omega arith
need_of c v (at_sync1 l a b) = omega arith
need_of c v (at_length h m) = omega arith
need_of c v (at_bad h a l q) = (allows c (length_at v 0) a).not_small
need_of c v (at_good h a l q) = (allows c (length_at v 0) a).not_small

module _ (c : ℕ) (xs ys : List ℕ) (n : judged c (xs ++ ys) ≡ Undecided → ⊥) where
  abbrev Soon : Verdict → Type 0
  Soon x = length xs < bytes_needed x

  soon_of : {x : Verdict} → View c xs x → x ≡ Undecided → Soon (judged c (xs ++ ys))
  soon_of (waits_head h f s) e = omega (arith, need_of c (xs ++ ys) (view c (xs ++ ys)))
  soon_of (waits_body h a l) e =
      lt? (length (xs ++ ys)) (length_at xs 0) (λ m. absurd (n (part_on c xs ys h a m)))
      (λ m.
      bool? (crc_right (xs ++ ys) 0) (λ q. subst⁻¹ Soon (good_on c xs ys h a m q) l)
      (λ q. subst⁻¹ Soon (bad_on c xs ys h a m q) l))
  soon_of (at_sync0 l a) e = let z : ◌≡◌ {A = ℕ} 0 1 = cc in omega arith
  soon_of (at_sync1 l a b) e = let z : ◌≡◌ {A = ℕ} 0 1 = cc in omega arith
  soon_of (at_length h m) e = let z : ◌≡◌ {A = ℕ} 0 1 = cc in omega arith
  soon_of (at_bad h a l q) e = let z : ◌≡◌ {A = ℕ} 0 1 = cc in omega arith
  soon_of (at_good h a l q) e = let z : ◌≡◌ {A = ℕ} 0 1 = cc in omega arith

fits_of : (c : ℕ) (v : List ℕ) {x : Verdict} → View c v x → Fits v x
fits_of c v (waits_head h f s) = tt
fits_of c v (waits_body h a l) = tt
fits_of c v (at_sync0 l a) = tt
fits_of c v (at_sync1 l a b) = tt
fits_of c v (at_length h m) = tt
fits_of c v (at_bad h a l q) = record { eight = (allows c (length_at v 0) a).not_small; within = l }
fits_of c v (at_good h a l q) = record { eight = (allows c (length_at v 0) a).not_small; within = l }

pub judging : (c : ℕ) → Judging (judged c)
judging c =
    record {
      empty = empty c [] refl;
      fits = λ v. fits_of c v (view c v);
      stays = λ xs ys n. stays_of c xs ys (view c xs) n;
      soon = λ xs ys e n. soon_of c xs ys n (view c xs) e;
    }

-- ---- the run's end

few_fits : (v : List ℕ) (a b : Bool) → FitsFor v (cond a NoSync (cond b FewLeft PastEnd))
few_fits v true b = tt
few_fits v false true = tt
few_fits v false false = tt

last_fits_by : (v : List ℕ) (x : Verdict) → Fits v x → Fits v (last_by x v)
last_fits_by v (NoFrame r) f = f
last_fits_by v (Frame n) f = f
last_fits_by v Undecided f = few_fits v (ltb (length v) 2) (ltb (length v) 8)

pub last_fits : (c : ℕ) (v : List ℕ) → Fits v (judged_last c v)
unfolding judged_last
last_fits c v = last_fits_by v (judged c v) ((judging c).fits v)

-- a frame there is one here
last_frame_by : (v : List ℕ) (x : Verdict) (n : ℕ) → last_by x v ≡ Frame n → x ≡ Frame n
last_frame_by v (NoFrame r) n e = let z : ◌≡◌ {A = ℕ} 0 1 = cc in let f : ⊥ = omega arith in absurd f
last_frame_by v (Frame k) n e = e
last_frame_by v Undecided n e = let z : ◌≡◌ {A = ℕ} 0 1 = cc in let f : ⊥ = omega arith in absurd f

pub last_frame : (c : ℕ) (v : List ℕ) (n : ℕ) → judged_last c v ≡ Frame n → judged c v ≡ Frame n
unfolding judged_last
last_frame c v n e = last_frame_by v (judged c v) n e

pub frame_last : (c : ℕ) (v : List ℕ) (n : ℕ) → judged c v ≡ Frame n → judged_last c v ≡ Frame n
unfolding judged_last
frame_last c v n e = ap (λ (x : Verdict). last_by x v) e

-- every place is decided
last_decides_by : (v : List ℕ) (x : Verdict) → last_by x v ≡ Undecided → ⊥
last_decides_by v (NoFrame r) e = let z : ◌≡◌ {A = ℕ} 0 1 = cc in omega arith
last_decides_by v (Frame k) e = let z : ◌≡◌ {A = ℕ} 0 1 = cc in omega arith
last_decides_by v Undecided e = let z : ◌≡◌ {A = ℕ} 0 1 = cc in omega arith

pub last_decides : (c : ℕ) (v : List ℕ) → judged_last c v ≡ Undecided → ⊥
unfolding judged_last
last_decides c v e = last_decides_by v (judged c v) e
