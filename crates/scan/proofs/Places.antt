-- Settling place by place, in the numbers that the loops keep: what the places from k on give.
-- Assumes nothing.
use mathlib.Core.Path.{◌≡◌, refl, sym, ap, ◌∙◌, subst⁻¹}
use mathlib.Core.List.{List, [], ◌∷◌, ◌++◌, append-nil}
use Rattle.std.proofs.Common.{None}
use Prim.Native.Nat.{ℕ, zero, suc, max, ◌+◌, ◌-◌, ◌≤◌, ◌<◌}
use native.Mathlib.Numerals.{add-one}
use native.Mathlib.Omega.{arith}
use lib.ListN.{length, drop, get_or, length-drop, length-append, replicate, drop_of_length-le, get_or-append}
use lib.Seq.{drop-cons}
use Rattle.frame.specs.Judge.{judged, last_by, judged_last}
use Rattle.scan.specs.Settle.{Settled, stop_at, settle_by, settle}
use Rattle.scan.specs.Feed.{size}
use Rattle.scan.specs.Passed.{count, count_all}
use Rattle.scan.specs.Scan.{with_rest, raised, needed, stretch_by, stretch_of, NoStart}
use Rattle.frame.specs.declared.Reason.{Reason}
use Rattle.frame.specs.declared.Reason.TheVariants.{NoSync}
use Rattle.frame.specs.declared.Verdict.{Verdict}
use Rattle.frame.specs.declared.Verdict.TheVariants.{NoFrame, Frame, Undecided}
use Rattle.scan.specs.declared.Passed.{Passed}
use Rattle.scan.specs.declared.Scanned.{Scanned}
use Rattle.scan.specs.declared.Stretch.{Stretch}
use Rattle.scan.specs.declared.Stretch.TheVariants.{Block, Waits, Through}
use Rattle.wire.proofs.Tests.{eq?}
use Rattle.frame.proofs.Cases.{sync0, sync1, byte0, byte}

-- ---- at a place

cons : (judge : List ℕ → Verdict) (v : List ℕ) (x : ℕ) (t : List ℕ) → v ≡ x ∷ t → settle judge v ≡ settle_by (judge v) v (settle judge t)
unfolding settle
cons judge v x t e = subst⁻¹ (λ (l : List ℕ). settle judge l ≡ settle_by (judge l) l (settle judge t)) e refl

none_left : (judge : List ℕ → Verdict) (v : List ℕ) → v ≡ [] → settle judge v ≡ stop_at None []
unfolding settle
none_left judge v e = ap (settle judge) e

module _ (judge : List ℕ → Verdict) (s : List ℕ) (k : ℕ) where
  pub at : k < length s → settle judge (drop k s) ≡ settle_by (judge (drop k s)) (drop k s) (settle judge (drop (k + 1) s))
  at l = cons judge (drop k s) (get_or s k 0) (drop (k + 1) s) (rw (add-one, drop-cons s k 0))

  at_by : {x : Verdict} → k < length s → judge (drop k s) ≡ x → settle judge (drop k s) ≡ settle_by x (drop k s) (settle judge (drop (k + 1) s))
  at_by l e = at l ∙ ap (λ (y : Verdict). settle_by y (drop k s) (settle judge (drop (k + 1) s))) e

-- ---- where no sync pair stands

module _ (c : ℕ) (s rest : List ℕ) (k : ℕ) (l : k < length s) where
  long : length (drop k s ++ rest) ≡ length s - k + length rest
  long = length-append (drop k s) rest ∙ ap (λ (x : ℕ). x + length rest) (length-drop k s)

  first : get_or (drop k s ++ rest) 0 0 ≡ get_or s k 0
  first = get_or-append (drop k s) rest 0 0 (omega (arith, length-drop k s)) ∙ byte0 s k

  second : k + 1 < length s → get_or (drop k s ++ rest) 1 0 ≡ get_or s (k + 1) 0
  second m = get_or-append (drop k s) rest 0 1 (omega (arith, length-drop k s)) ∙ byte s k 1

  no_sync : (get_or s k 0 ≡ 0x24 → (k + 1 < length s) × (get_or s (k + 1) 0 ≡ 0x40 → ⊥)) → judged c (drop k s ++ rest) ≡ NoFrame NoSync
  no_sync h =
      eq? (get_or s k 0) 0x24
      (λ e.
      let g = h e in
      sync1 c (drop k s ++ rest) (omega (arith, long, g.0)) (first ∙ e) (λ f. g.1 (sym (second g.0) ∙ f)))
      (λ n. sync0 c (drop k s ++ rest) (omega (arith, long)) (λ f. n (sym first ∙ f)))

-- ---- the places of a part

module _ (c : ℕ) (s rest : List ℕ) where
  -- those from k on, where a was passed before
  abbrev pub from_place : ℕ → Passed → ℕ → Stretch
  from_place k a m = stretch_of (settle (with_rest (judged c) rest) (drop k s)) a m

  pub part_stop : (k : ℕ) (a : Passed) (m : ℕ) {x : Verdict} → k < length s → judged c (drop k s ++ rest) ≡ x
      → from_place k a m ≡ stretch_of (settle_by x (drop k s) (settle (with_rest (judged c) rest) (drop (k + 1) s))) a m
  part_stop k a m l e = ap (λ (y : Settled). stretch_of y a m) (at_by (with_rest (judged c) rest) s k l e)

  -- a place that is not decided has a byte
  waits_by : (v : List ℕ) (a : Passed) (m : ℕ) → 0 < length v → stretch_by None v a m ≡ Waits a
  waits_by [] a m l = let f : ⊥ = omega arith in absurd f
  waits_by (b ∷ bs) a m l = refl

  pub part_frame : (k : ℕ) (a : Passed) (m n : ℕ) → k < length s → judged c (drop k s ++ rest) ≡ Frame n → from_place k a m ≡ Block a n (max m (a.skipped + n))
  unfolding count_all needed
  part_frame k a m n l e = part_stop k a m l e

  pub part-waits : (k : ℕ) (a : Passed) (m : ℕ) → k < length s → judged c (drop k s ++ rest) ≡ Undecided → from_place k a m ≡ Waits a
  unfolding count_all needed
  part-waits k a m l e = part_stop k a m l e ∙ waits_by (drop k s) a m (omega (arith, length-drop k s))

  pub part_pass : (k : ℕ) (a : Passed) (m : ℕ) (r : Reason) → k < length s → judged c (drop k s ++ rest) ≡ NoFrame r
      → from_place k a m ≡ from_place (k + 1) (count a r) (raised r a.skipped m)
  unfolding count_all needed
  part_pass k a m r l e = part_stop k a m l e

  pub part_end : (k : ℕ) (a : Passed) (m : ℕ) → length s ≤ k → from_place k a m ≡ Through a m
  unfolding count_all needed
  part_end k a m h = ap (λ (y : Settled). stretch_of y a m) (none_left (with_rest (judged c) rest) (drop k s) (drop_of_length-le s h))

  skip_by : (d k q : ℕ) (a : Passed) (m : ℕ) → k + d ≡ q → q ≤ length s → ((i : ℕ) → k ≤ i → i < q → judged c (drop i s ++ rest) ≡ NoFrame NoSync)
      → from_place k a m ≡ from_place q (count_all a (replicate d NoSync)) m
  unfolding count_all
  skip_by zero k q a m e h n = let f : k ≡ q = omega arith in ap (λ (i : ℕ). from_place i a m) f
  skip_by (suc d) k q a m e h n =
      part_pass k a m NoSync (omega arith) (n k (omega arith) (omega arith))
      ∙ skip_by d (k + 1) q (count a NoSync) m (omega arith) h (λ i lo hi. n i (omega arith) hi)

  -- places with no start are passed at once
  pub skip_run : (k q : ℕ) (a : Passed) (m : ℕ) → NoStart s k q → from_place k a m ≡ from_place q (count_all a (replicate (q - k) NoSync)) m
  skip_run k q a m h =
      skip_by (q - k) k q a m (omega (arith, h.from)) h.within
      (λ i lo hi. no_sync c s rest i (omega (arith, h.within)) (h.none i lo hi))

-- ---- the places of the run's last bytes

-- what is settled with nothing to follow, where a was passed before
abbrev pub end_of : Settled → Passed → Scanned
end_of s a = record { taken = 0; passed = count_all a s.passed; block = size s.standing }

module _ (c : ℕ) (s : List ℕ) where
  -- those from k on
  abbrev pub from_end : ℕ → Passed → Scanned
  from_end k a = end_of (settle (judged_last c) (drop k s)) a

  pub end_frame : (k : ℕ) (a : Passed) (n : ℕ) → k < length s → judged_last c (drop k s) ≡ Frame n → from_end k a ≡ record { taken = 0; passed = a; block = n }
  unfolding count_all
  end_frame k a n l e = ap (λ (y : Settled). end_of y a) (at_by (judged_last c) s k l e)

  pub end_pass : (k : ℕ) (a : Passed) (r : Reason) → k < length s → judged_last c (drop k s) ≡ NoFrame r → from_end k a ≡ from_end (k + 1) (count a r)
  unfolding count_all
  end_pass k a r l e = ap (λ (y : Settled). end_of y a) (at_by (judged_last c) s k l e)

  pub end_end : (k : ℕ) (a : Passed) → length s ≤ k → from_end k a ≡ record { taken = 0; passed = a; block = 0 }
  unfolding count_all
  end_end k a h = ap (λ (y : Settled). end_of y a) (none_left (judged_last c) (drop k s) (drop_of_length-le s h))

  end_skip_by : (d k q : ℕ) (a : Passed) → k + d ≡ q → q ≤ length s → ((i : ℕ) → k ≤ i → i < q → judged_last c (drop i s) ≡ NoFrame NoSync)
      → from_end k a ≡ from_end q (count_all a (replicate d NoSync))
  unfolding count_all
  end_skip_by zero k q a e h n = let f : k ≡ q = omega arith in ap (λ (i : ℕ). from_end i a) f
  end_skip_by (suc d) k q a e h n =
      end_pass k a NoSync (omega arith) (n k (omega arith) (omega arith))
      ∙ end_skip_by d (k + 1) q (count a NoSync) (omega arith) h (λ i lo hi. n i (omega arith) hi)

  last_no_sync : (v : List ℕ) → judged c v ≡ NoFrame NoSync → judged_last c v ≡ NoFrame NoSync
  unfolding judged_last
  last_no_sync v e = ap (λ (x : Verdict). last_by x v) e

  pub end_skip : (k q : ℕ) (a : Passed) → NoStart s k q → from_end k a ≡ from_end q (count_all a (replicate (q - k) NoSync))
  end_skip k q a h =
      end_skip_by (q - k) k q a (omega (arith, h.from)) h.within
      (λ i lo hi.
      last_no_sync (drop i s) (ap (judged c) (sym (append-nil (drop i s))) ∙ no_sync c s [] i (omega (arith, h.within)) (h.none i lo hi)))
