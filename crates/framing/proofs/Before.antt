-- With the ceiling 65,532 a run of bytes reads as it did without one: two bytes say no length that is allowed above it.
-- Assumes nothing.
use mathlib.Core.Path.{◌≡◌, refl, ap, ◌∙◌}
use mathlib.Core.List.{List, [], ◌∷◌}
use mathlib.Core.Bool.{Bool, true, false, not, cond, ◌&&◌}
use Prim.Native.Nat.{ℕ, zero, suc, ◌+◌, ◌%◌, ◌<◌}
use native.Mathlib.Omega.{arith}
use lib.ListN.{length, get_or}
use lib.Dec.{leb, ltb, eqb}
use borrow.Author.Tests.{eqb-true, le-leb}
use Rattle.wire.specs.Range.{Bytes}
use Rattle.wire.proofs.Laws.{range}
use Rattle.wire.proofs.Tests.{bool?}
use Rattle.frame.specs.Frame.{greatest_ceiling, sync_at, length_at, allowed, ends_within, crc_right, frame_at}
use Rattle.frame.specs.Judge.{judged}
use Rattle.frame.specs.declared.Reason.TheVariants.{NoSync, LengthNotAllowed, CrcWrong}
use Rattle.frame.specs.declared.Verdict.TheVariants.{NoFrame, Frame, Undecided}
use Rattle.framing.specs.ReadRun.{Reading, block_then, skip_then, block_at, read_by, read_from, read_run}
use Rattle.framing.specs.Before.{allowed_before, frame_at_before, judged_before, read_from_before, read_run_before, GreatestAsBefore}

-- ---- at one place

and-true : (a : Bool) → (a && true) ≡ a
and-true true = refl
and-true false = refl

-- below 65,536 a number that four divides is no more than 65,532
not_above : (l : ℕ) → l < 65536 → eqb (l % 4) 0 ≡ true → leb l greatest_ceiling ≡ true
not_above l h e = let f = eqb-true (l % 4) 0 e in le-leb l greatest_ceiling (omega arith)

allowed_same : (l : ℕ) → l < 65536 → allowed greatest_ceiling l ≡ allowed_before l
unfolding allowed allowed_before
allowed_same l h =
    bool? (eqb (l % 4) 0)
    (λ e. ap (λ (x : Bool). eqb (l % 4) 0 && leb 8 l && x) (not_above l h e) ∙ and-true (eqb (l % 4) 0 && leb 8 l))
    (λ e. simp e)

frame_same : (v : List ℕ) → Bytes v → frame_at greatest_ceiling v 0 ≡ frame_at_before v 0
unfolding frame_at frame_at_before
frame_same v h =
    ap (λ (x : Bool). sync_at v 0 && x && ends_within v 0 && crc_right v 0) (allowed_same (length_at v 0) (range 2 v 6 h))

judge_same : (v : List ℕ) → Bytes v → judged greatest_ceiling v ≡ judged_before v
unfolding judged judged_before
judge_same v h =
    ap
    (λ (x : Bool).
    cond (eqb (length v) 0) Undecided
    (cond (not (eqb (get_or v 0 0) 0x24)) (NoFrame NoSync)
    (cond (eqb (length v) 1) Undecided
    (cond (not (eqb (get_or v 1 0) 0x40)) (NoFrame NoSync)
    (cond (ltb (length v) 8) Undecided
    (cond (not x) (NoFrame LengthNotAllowed)
    (cond (ltb (length v) (length_at v 0)) Undecided
    (cond (crc_right v 0) (Frame (length_at v 0)) (NoFrame (CrcWrong (length_at v 0)))))))))))
    (allowed_same (length_at v 0) (range 2 v 6 h))

-- ---- from place to place

-- the same test and the same goings on read the same
by_test : (f : Bool) (p : ℕ) (v : List ℕ) (go on : ℕ → Reading) → ((k : ℕ) → go k ≡ on k) → read_by f p v go ≡ read_by f p v on
by_test true p v go on e = ap (block_then (block_at p (length_at v 0) v)) (e _)
by_test false p v go on e = ap (skip_then p) (e 0)

read_same : (w : List ℕ) (p k : ℕ) → Bytes w → read_from greatest_ceiling p k w ≡ read_from_before p k w
unfolding read_from read_from_before
read_same [] p zero h = refl
read_same [] p (suc k) h = refl
read_same (b ∷ bs) p (suc k) h = read_same bs (p + 1) k (λ i. h (suc i))
read_same (b ∷ bs) p zero h =
    ap (λ (f : Bool). read_by f p (b ∷ bs) (λ k. read_from greatest_ceiling (p + 1) k bs)) (frame_same (b ∷ bs) h)
    ∙ by_test (frame_at_before (b ∷ bs) 0) p (b ∷ bs) (λ k. read_from greatest_ceiling (p + 1) k bs) (λ k. read_from_before (p + 1) k bs)
    (λ k. read_same bs (p + 1) k (λ i. h (suc i)))

run_same : (p : ℕ) (w : List ℕ) → Bytes w → read_run greatest_ceiling p w ≡ read_run_before p w
unfolding read_run read_run_before
run_same p w h = read_same w p 0 h

pub greatest_as_before : GreatestAsBefore
greatest_as_before = record { judges = judge_same; reads = run_same }
