-- When a place is decided, while the run is fed and when it is finished.
-- Assumes nothing.
use mathlib.Core.Path.{◌≡◌, refl, sym, ◌∙◌, subst}
use mathlib.Core.List.{List}
use mathlib.Core.Bool.{Bool, true, false, cond, ◌&&◌}
use Prim.Native.Nat.{ℕ, ◌≤◌, ◌<◌}
use native.Mathlib.Omega.{arith}
use lib.ListN.{length, get_or, get_or-eq_default}
use lib.Dec.{ltb, eqb}
use borrow.Author.Tests.{eq-eqb, ne_eqb, eqb-true, ltb-true, ltb-false, lt-ltb, le-ltb}
use Rattle.frame.specs.Frame.{sync_at, length_at}
use Rattle.frame.specs.Judge.{judged, last_by, judged_last}
use Rattle.frame.specs.declared.Reason.{Reason}
use Rattle.frame.specs.declared.Reason.TheVariants.{NoSync, LengthNotAllowed, CrcWrong, FewLeft, PastEnd}
use Rattle.frame.specs.declared.Verdict.{Verdict}
use Rattle.frame.specs.declared.Verdict.TheVariants.{NoFrame, Frame, Undecided}
use Rattle.wire.proofs.Tests.{bool?, lt?, both_left, both_right, both_true, never}
use Rattle.frame.proofs.Cases.{short, part}
use Rattle.frame.proofs.View.{Head, View, waits_head, waits_body, at_sync0, at_sync1, at_length, at_bad, at_good, view}
use Rattle.scan.proofs.Stable.{judging, last_decides, frame_last, last_frame}
use Rattle.frame.proofs.Last.{last_ends}
use Rattle.framing.specs.Theorems.{Decided, first_wrong, second_wrong, length_wrong, all_there, DecidedExactly, HasFew, PassesEnd, LastRight}

-- ---- while the run is fed

module _ (c : ℕ) where
  once_by : (v : List ℕ) {x : Verdict} → View c v x → Decided c v → x ≡ Undecided → ⊥
  once_by v (waits_head h f s) (first_wrong l n) e = n (f l)
  once_by v (waits_head h f s) (second_wrong l n) e = n (s l)
  once_by v (waits_head h f s) (length_wrong l n) e = omega arith
  once_by v (waits_head h f s) (all_there l n) e = omega arith
  once_by v (waits_body h a l) (first_wrong m n) e = n h.first
  once_by v (waits_body h a l) (second_wrong m n) e = n h.second
  once_by v (waits_body h a l) (length_wrong m n) e = never a n
  once_by v (waits_body h a l) (all_there m n) e = omega arith
  once_by v (at_sync0 l a) d e = let z : ◌≡◌ {A = ℕ} 0 1 = cc in omega arith
  once_by v (at_sync1 l a b) d e = let z : ◌≡◌ {A = ℕ} 0 1 = cc in omega arith
  once_by v (at_length h a) d e = let z : ◌≡◌ {A = ℕ} 0 1 = cc in omega arith
  once_by v (at_bad h a l q) d e = let z : ◌≡◌ {A = ℕ} 0 1 = cc in omega arith
  once_by v (at_good h a l q) d e = let z : ◌≡◌ {A = ℕ} 0 1 = cc in omega arith

  before_by : (v : List ℕ) {x : Verdict} → View c v x → (x ≡ Undecided → ⊥) → Decided c v
  before_by v (waits_head h f s) n = absurd (n refl)
  before_by v (waits_body h a l) n = absurd (n refl)
  before_by v (at_sync0 l a) n = first_wrong l a
  before_by v (at_sync1 l a b) n = second_wrong l b
  before_by v (at_length h a) n = length_wrong h.eight a
  before_by v (at_bad h a l q) n = all_there h.eight l
  before_by v (at_good h a l q) n = all_there h.eight l

  pub decided_exactly : DecidedExactly c
  decided_exactly =
      record {
        once = λ v d. once_by v (view c v) d;
        not_before = λ v n. before_by v (view c v) n;
        alone = λ xs ys zs d. let n = once_by xs (view c xs) d in (judging c).stays xs ys n ∙ sym ((judging c).stays xs zs n);
      }

-- ---- when it is finished

and-false : (a : Bool) → (a && false) ≡ false
and-false true = refl
and-false false = refl

paired : (v : List ℕ) → get_or v 0 0 ≡ 0x24 → get_or v 1 0 ≡ 0x40 → sync_at v 0 ≡ true
unfolding sync_at
paired v e f = both_true (eq-eqb (get_or v 0 0) 0x24 e) (eq-eqb (get_or v 1 0) 0x40 f)

no_first_lem : (v : List ℕ) → (get_or v 0 0 ≡ 0x24 → ⊥) → sync_at v 0 ≡ false
unfolding sync_at
no_first_lem v n = simp (ne_eqb (get_or v 0 0) 0x24 n)

no_second : (v : List ℕ) → (get_or v 1 0 ≡ 0x40 → ⊥) → sync_at v 0 ≡ false
unfolding sync_at
no_second v n = simp (ne_eqb (get_or v 1 0) 0x40 n) (and-false (eqb (get_or v 0 0) 0x24))

-- with the pair the reason is another, without it it is this
pub record Pair (v : List ℕ) (x : Verdict) : Type 0 where
  pub with : sync_at v 0 ≡ true → x ≡ NoFrame NoSync → ⊥
  pub without : sync_at v 0 ≡ false → x ≡ NoFrame NoSync

other : (v : List ℕ) (x : Verdict) → sync_at v 0 ≡ true → (x ≡ NoFrame NoSync → ⊥) → Pair v x
other v x e n = record { with = λ q. n; without = λ q. never e q }

this : (v : List ℕ) → sync_at v 0 ≡ false → Pair v (NoFrame NoSync)
this v e = record { with = λ q. never q e; without = λ q. refl }

head_pair : (v : List ℕ) → Head v → sync_at v 0 ≡ true
head_pair v h = paired v h.first h.second

few_by : (v : List ℕ) (a b : Bool) → ltb (length v) 2 ≡ a → (a ≡ true → sync_at v 0 ≡ false) → (a ≡ false → sync_at v 0 ≡ true)
    → Pair v (NoFrame (cond a NoSync (cond b FewLeft PastEnd)))
few_by v true b e f g = this v (f refl)
few_by v false true e f g = other v (NoFrame FewLeft) (g refl) (λ q. let z : ◌≡◌ {A = ℕ} 0 1 = cc in omega arith)
few_by v false false e f g = other v (NoFrame PastEnd) (g refl) (λ q. let z : ◌≡◌ {A = ℕ} 0 1 = cc in omega arith)

lone : (v : List ℕ) → length v < 2 → sync_at v 0 ≡ false
lone v l = no_second v (λ e. omega (arith, get_or-eq_default v 0 {n = 1} (omega arith)))

module _ (v : List ℕ) (e : sync_at v 0 ≡ true) where
  first : get_or v 0 0 ≡ 0x24
  unfolding sync_at
  first = eqb-true (get_or v 0 0) 0x24 (both_left (eqb (get_or v 0 0) 0x24) (eqb (get_or v 1 0) 0x40) e)

  second : get_or v 1 0 ≡ 0x40
  unfolding sync_at
  second = eqb-true (get_or v 1 0) 0x40 (both_right (eqb (get_or v 0 0) 0x24) (eqb (get_or v 1 0) 0x40) e)

  two : 1 < length v
  two = lt? (length v) 2 (λ l. never e (lone v l)) (λ l. omega arith)

module _ (c : ℕ) where
  pair_by : (v : List ℕ) {x : Verdict} → View c v x → Pair v (last_by x v)
  pair_by v (waits_head h f s) =
      few_by v (ltb (length v) 2) (ltb (length v) 8) refl (λ e. lone v (ltb-true (length v) 2 e))
      (λ e. let l = ltb-false (length v) 2 e in paired v (f (omega arith)) (s (omega arith)))
  pair_by v (waits_body h a l) =
      few_by v (ltb (length v) 2) (ltb (length v) 8) refl (λ e. let q = ltb-true (length v) 2 e in let z : ⊥ = omega (arith, h.eight) in absurd z)
      (λ e. head_pair v h)
  pair_by v (at_sync0 l a) = this v (no_first_lem v a)
  pair_by v (at_sync1 l a b) = this v (no_second v b)
  pair_by v (at_length h a) = other v (NoFrame LengthNotAllowed) (head_pair v h) (λ q. let z : ◌≡◌ {A = ℕ} 0 1 = cc in omega arith)
  pair_by v (at_bad h a l q) = other v (NoFrame (CrcWrong (length_at v 0))) (head_pair v h) (λ q. let z : ◌≡◌ {A = ℕ} 0 1 = cc in omega arith)
  pair_by v (at_good h a l q) = other v (Frame (length_at v 0)) (head_pair v h) (λ q. let z : ◌≡◌ {A = ℕ} 0 1 = cc in omega arith)

  last_pair : (v : List ℕ) → Pair v (judged_last c v)
  unfolding judged_last
  last_pair v = pair_by v (view c v)

-- ---- the two reasons that only the run's end gives

-- while the run is fed neither is given
abbrev pub WhileFedFor : Reason → Type 0
WhileFedFor NoSync = Unit {0}
WhileFedFor LengthNotAllowed = Unit {0}
WhileFedFor (CrcWrong n) = Unit {0}
WhileFedFor FewLeft = ⊥
WhileFedFor PastEnd = ⊥

abbrev pub WhileFed : Verdict → Type 0
WhileFed (NoFrame r) = WhileFedFor r
WhileFed (Frame n) = Unit {0}
WhileFed Undecided = Unit {0}

module _ (c : ℕ) where
  -- what a reason says
  abbrev pub EndSaysFor : List ℕ → Reason → Type 0
  EndSaysFor v NoSync = Unit {0}
  EndSaysFor v LengthNotAllowed = Unit {0}
  EndSaysFor v (CrcWrong n) = Unit {0}
  EndSaysFor v FewLeft = HasFew v
  EndSaysFor v PastEnd = PassesEnd c v

  abbrev pub EndSays : List ℕ → Verdict → Type 0
  EndSays v (NoFrame r) = EndSaysFor v r
  EndSays v (Frame n) = Unit {0}
  EndSays v Undecided = Unit {0}

  says_few : (v : List ℕ) (a b : Bool) → ltb (length v) 2 ≡ a → ltb (length v) 8 ≡ b
      → (2 ≤ length v → length v < 8 → HasFew v) → (8 ≤ length v → PassesEnd c v) → EndSaysFor v (cond a NoSync (cond b FewLeft PastEnd))
  says_few v true b e f few past = tt
  says_few v false true e f few past = few (ltb-false (length v) 2 e) (ltb-true (length v) 8 f)
  says_few v false false e f few past = past (ltb-false (length v) 8 f)

  says_by : (v : List ℕ) {x : Verdict} → View c v x → EndSays v (last_by x v)
  says_by v (waits_head h f s) =
      says_few v (ltb (length v) 2) (ltb (length v) 8) refl refl (λ l m. (paired v (f (omega arith)) (s (omega arith)), m))
      (λ l. let z : ⊥ = omega arith in absurd z)
  says_by v (waits_body h a l) =
      says_few v (ltb (length v) 2) (ltb (length v) 8) refl refl (λ m k. let z : ⊥ = omega (arith, h.eight) in absurd z)
      (λ m. (head_pair v h, m, a, l))
  says_by v (at_sync0 l a) = tt
  says_by v (at_sync1 l a b) = tt
  says_by v (at_length h a) = tt
  says_by v (at_bad h a l q) = tt
  says_by v (at_good h a l q) = tt

  last_says : (v : List ℕ) {x : Verdict} → judged_last c v ≡ x → EndSays v x
  unfolding judged_last
  last_says v e = subst (EndSays v) e (says_by v (view c v))

  fed_by : (v : List ℕ) {x : Verdict} → View c v x → WhileFed x
  fed_by v (waits_head h f s) = tt
  fed_by v (waits_body h a l) = tt
  fed_by v (at_sync0 l a) = tt
  fed_by v (at_sync1 l a b) = tt
  fed_by v (at_length h a) = tt
  fed_by v (at_bad h a l q) = tt
  fed_by v (at_good h a l q) = tt

  ends : (v : List ℕ) → sync_at v 0 ≡ true → {b : Bool} → judged c v ≡ Undecided → ltb (length v) 8 ≡ b → judged_last c v ≡ NoFrame (cond b FewLeft PastEnd)
  ends v e u f = last_ends c v u (le-ltb (length v) 2 (omega (arith, two v e))) f

  few_left : (v : List ℕ) → HasFew v → judged_last c v ≡ NoFrame FewLeft
  few_left v h = ends v h.0 (short c v (two v h.0) (first v h.0) (second v h.0) h.1) (lt-ltb (length v) 8 h.1)

  past_end : (v : List ℕ) → PassesEnd c v → judged_last c v ≡ NoFrame PastEnd
  past_end v h =
      ends v h.0 (part c v (two v h.0) (first v h.0) (second v h.0) h.1 h.2 h.3) (le-ltb (length v) 8 h.1)

  pub last_right : LastRight c
  last_right =
      record {
        decides = last_decides c;
        frame = frame_last c;
        stands = last_frame c;
        no_pair = λ v e. (last_pair c v).without e;
        pair = λ v e. bool? (sync_at v 0) (λ t. absurd ((last_pair c v).with t e)) (λ f. f);
        lone = λ v l. (last_pair c v).without (lone v (omega arith));
        few_left = few_left;
        few = λ v e. last_says v e;
        past_end = past_end;
        past = λ v e. last_says v e;
        fed_not_few = λ v e. subst WhileFed e (fed_by v (view c v));
        fed_not_past = λ v e. subst WhileFed e (fed_by v (view c v));
      }
