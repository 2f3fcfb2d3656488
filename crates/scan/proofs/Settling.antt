-- Laws of `settle`, over any judge: what is left, where it stopped, and settling in two parts.
-- Assumes nothing.
use mathlib.Core.Path.{◌≡◌, refl, ap, ◌∙◌}
use mathlib.Core.Logic.{◌⊎◌, inl, inr}
use mathlib.Core.List.{List, [], ◌∷◌, ◌++◌}
use Rattle.std.proofs.Common.{Option, None, Some}
use Prim.Native.Nat.{ℕ, ◌≤◌}
use native.Mathlib.Omega.{arith}
use lib.ListN.{length, drop}
use Rattle.scan.specs.Settle.{Settled, pass, settle_by, settle}
use Rattle.scan.specs.Feed.{size}
use Rattle.scan.specs.Scan.{with_rest}
use Rattle.frame.specs.declared.Reason.{Reason}
use Rattle.frame.specs.declared.Verdict.{Verdict}
use Rattle.frame.specs.declared.Verdict.TheVariants.{NoFrame, Frame, Undecided}
use Rattle.scan.proofs.Judging.{There, Fits, Judging}

-- some are passed first
abbrev pub before : List Reason → Settled → Settled
before rs s = record { passed = rs ++ s.passed; standing = s.standing; rest = s.rest }

-- the rest is the held bytes without those passed
pub record Rest (h : List ℕ) (s : Settled) : Type 0 where
  pub few : length s.passed ≤ length h
  pub is : s.rest ≡ drop (length s.passed) h

module _ (judge : List ℕ → Verdict) where
  rest_by : (x : Verdict) (b : ℕ) (bs : List ℕ) (next : Settled) → Rest bs next → Rest (b ∷ bs) (settle_by x (b ∷ bs) next)
  rest_by (NoFrame r) b bs next q = record { few = omega (arith, q.few); is = q.is }
  rest_by (Frame n) b bs next q = record { few = omega arith; is = refl }
  rest_by Undecided b bs next q = record { few = omega arith; is = refl }

  pub settle_rest : (h : List ℕ) → Rest h (settle judge h)
  unfolding settle
  settle_rest [] = record { few = omega arith; is = refl }
  settle_rest (b ∷ bs) = rest_by (judge (b ∷ bs)) b bs (settle judge bs) (settle_rest bs)

  -- what stands at the front of the rest
  abbrev pub Stopped : Option ℕ → List ℕ → Type 0
  Stopped None v = (v ≡ []) ⊎ (judge v ≡ Undecided)
  Stopped (Some n) v = judge v ≡ Frame n

  stopped_by : (x : Verdict) (v : List ℕ) (next : Settled) → judge v ≡ x → Stopped next.standing next.rest
      → Stopped (settle_by x v next).standing (settle_by x v next).rest
  stopped_by (NoFrame r) v next e q = q
  stopped_by (Frame n) v next e q = e
  stopped_by Undecided v next e q = inr e

  pub settle_stopped : (h : List ℕ) → Stopped (settle judge h).standing (settle judge h).rest
  unfolding settle
  settle_stopped [] = inl refl
  settle_stopped (b ∷ bs) = stopped_by (judge (b ∷ bs)) (b ∷ bs) (settle judge bs) refl (settle_stopped bs)

-- ---- with more behind

module _ (judge : List ℕ → Verdict) (laws : Judging judge) (ys : List ℕ) where
  abbrev pub after : Option ℕ → List Reason → List ℕ → Settled
  after (Some n) rs v = record { passed = rs; standing = Some n; rest = v ++ ys }
  after None rs v = before rs (settle judge (v ++ ys))

  pass_after : (r : Reason) (o : Option ℕ) (rs : List Reason) (v : List ℕ) → pass r (after o rs v) ≡ after o (r ∷ rs) v
  pass_after r None rs v = refl
  pass_after r (Some n) rs v = refl

  same : (b : ℕ) (bs : List ℕ) (x : Verdict) → judge (b ∷ bs) ≡ x → (x ≡ Undecided → ⊥) → judge (b ∷ bs ++ ys) ≡ x
  same b bs x e n = laws.stays (b ∷ bs) ys (λ u. n (cc)) ∙ e

  after_by : (x : Verdict) (b : ℕ) (bs : List ℕ) (next : Settled) → judge (b ∷ bs) ≡ x
      → settle judge (bs ++ ys) ≡ after next.standing next.passed next.rest
      → settle judge (b ∷ bs ++ ys) ≡ after (settle_by x (b ∷ bs) next).standing (settle_by x (b ∷ bs) next).passed (settle_by x (b ∷ bs) next).rest
  unfolding settle
  after_by (NoFrame r) b bs next e rec =
      ap (λ (x : Verdict). settle_by x (b ∷ bs ++ ys) (settle judge (bs ++ ys))) (same b bs (NoFrame r) e (λ u. let z : ◌≡◌ {A = ℕ} 0 1 = cc in omega arith))
      ∙ ap (pass r) rec ∙ pass_after r next.standing next.passed next.rest
  after_by (Frame n) b bs next e rec =
      ap (λ (x : Verdict). settle_by x (b ∷ bs ++ ys) (settle judge (bs ++ ys))) (same b bs (Frame n) e (λ u. let z : ◌≡◌ {A = ℕ} 0 1 = cc in omega arith))
  after_by Undecided b bs next e rec = refl

  -- a block stays; without one settling goes on from what is left
  pub settle_after : (h : List ℕ) → settle judge (h ++ ys) ≡ after (settle judge h).standing (settle judge h).passed (settle judge h).rest
  unfolding settle
  settle_after [] = refl
  settle_after (b ∷ bs) = after_by (judge (b ∷ bs)) b bs (settle judge bs) refl (settle_after bs)

-- ---- a part, and then the rest

module _ (judge : List ℕ → Verdict) (rest : List ℕ) where
  abbrev pub joined : Option ℕ → List Reason → List ℕ → Settled
  joined (Some n) rs v = record { passed = rs; standing = Some n; rest = v ++ rest }
  joined None rs (b ∷ bs) = record { passed = rs; standing = None; rest = b ∷ bs ++ rest }
  joined None rs [] = before rs (settle judge rest)

  pass_joined : (r : Reason) (o : Option ℕ) (rs : List Reason) (v : List ℕ) → pass r (joined o rs v) ≡ joined o (r ∷ rs) v
  pass_joined r (Some n) rs v = refl
  pass_joined r None rs (b ∷ bs) = refl
  pass_joined r None rs [] = refl

  joined_by : (x : Verdict) (b : ℕ) (bs : List ℕ) (next : Settled) → settle judge (bs ++ rest) ≡ joined next.standing next.passed next.rest
      → settle_by x (b ∷ bs ++ rest) (settle judge (bs ++ rest))
      ≡ joined (settle_by x (b ∷ bs) next).standing (settle_by x (b ∷ bs) next).passed (settle_by x (b ∷ bs) next).rest
  joined_by (NoFrame r) b bs next e = ap (pass r) e ∙ pass_joined r next.standing next.passed next.rest
  joined_by (Frame n) b bs next e = refl
  joined_by Undecided b bs next e = refl

  pub settle_joined : (s : List ℕ) → settle judge (s ++ rest)
      ≡ joined (settle (with_rest judge rest) s).standing (settle (with_rest judge rest) s).passed (settle (with_rest judge rest) s).rest
  unfolding settle
  settle_joined [] = refl
  settle_joined (b ∷ bs) = joined_by (judge (b ∷ bs ++ rest)) b bs (settle (with_rest judge rest) bs) (settle_joined bs)

-- ---- a standing block is there whole

pub front_by : (judge : List ℕ → Verdict) (o : Option ℕ) (v : List ℕ) → Fits v (judge v) → Stopped judge o v → size o ≤ length v
front_by judge None v f s = omega arith
front_by judge (Some n) v f s = let t : There n v = rw s at f in t.within

pub settle_front : (judge : List ℕ → Verdict) → ((v : List ℕ) → Fits v (judge v)) → (h : List ℕ) → size (settle judge h).standing ≤ length (settle judge h).rest
settle_front judge fits h =
    front_by judge (settle judge h).standing (settle judge h).rest (fits (settle judge h).rest) (settle_stopped judge h)
