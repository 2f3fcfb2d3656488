-- Why a place is no frame: the reason of F18 is the judges' one, and the causes count each such place with the pair once.
-- Assumes nothing.
use mathlib.Core.Path.{◌≡◌, refl, sym, ap, ap₂, ◌∙◌, subst}
use mathlib.Core.List.{List, [], ◌∷◌, ◌++◌, append-nil}
use mathlib.Core.Bool.{Bool, true, false, not, cond, ◌&&◌}
use Rattle.std.proofs.Common.{Option, None, Some}
use Prim.Native.Nat.{ℕ, zero, suc, ◌+◌, ◌≤◌}
use native.Mathlib.Nat.{add-zero}
use native.Mathlib.Omega.{arith}
use lib.ListN.{length, get_or, take, drop, length-drop, length-append}
use lib.Seq.{drop-append-le, drop-drop, append_snoc}
use lib.Dec.{ltb, eqb}
use borrow.Author.Tests.{eqb-true, leb-true, leb-false, lt-ltb, le-ltb}
use Rattle.frame.specs.Frame.{sync_at, length_at, allowed, ends_within, crc_right, frame_at}
use Rattle.frame.specs.Judge.{judged, last_by, judged_last}
use Rattle.frame.specs.declared.Reason.{Reason}
use Rattle.frame.specs.declared.Reason.TheVariants.{NoSync, LengthNotAllowed, CrcWrong, FewLeft, PastEnd}
use Rattle.frame.specs.declared.Verdict.{Verdict}
use Rattle.frame.specs.declared.Verdict.TheVariants.{NoFrame, Frame, Undecided}
use Rattle.wire.proofs.Tests.{bool?, lt?, both_left, both_right, never}
use Rattle.frame.proofs.Cases.{bad_length, bad, good}
use Rattle.frame.proofs.Standing.{judged_front, front_judged}
use Rattle.causes.specs.Causes.{Cause, few, badlen, past, badcrc, says, how_many}
use Rattle.scan.specs.Settle.{Settled, settle_by, settle}
use Rattle.scan.specs.Feed.{Intake, unless_block, feed_by, feed_lit}
use Rattle.scan.proofs.Stable.{judging, frame_last, last_frame, last_decides}
use Rattle.scan.proofs.Settling.{settle_rest}
use Rattle.framing.specs.ReadRun.{Reading, read_by, read_from, read_run}
use Rattle.framing.specs.Why.{reason_at, has_cause, caused_at, pairs_at, WhyRight, CausesSum}
use Rattle.framing.proofs.Standing.{length_drops, sync_drops, ends_drops, crc_drops, frame_drops}
use Rattle.framing.proofs.Deciding.{last_right}
use Rattle.framing.proofs.Reading.{places_from}

-- ---- the reason at a place is the one at the front of the rest

few_drops : (w : List ℕ) (p : ℕ) → p ≤ length w → ltb (length (drop p w)) 8 ≡ ltb (length w) (p + 8)
few_drops w p l =
    let e = length-drop p w in
    lt? (length w) (p + 8) (λ h. lt-ltb (length (drop p w)) 8 (omega arith) ∙ sym (lt-ltb (length w) (p + 8) h))
    (λ h. le-ltb (length (drop p w)) 8 (omega arith) ∙ sym (le-ltb (length w) (p + 8) h))

reason_drops : (c : ℕ) (w : List ℕ) (p : ℕ) → p ≤ length w → reason_at c (drop p w) 0 ≡ reason_at c w p
unfolding reason_at
reason_drops c w p l = simp (sync_drops w p l, few_drops w p l, length_drops w p l, ends_drops w p l, crc_drops w p l)

-- ---- at the front: the judge of the run's end gives the first test that fails

-- the reason that a verdict has
abbrev reason_in : Verdict → Option Reason
reason_in (NoFrame r) = Some r
reason_in (Frame n) = None
reason_in Undecided = None

module _ (v : List ℕ) (s : sync_at v 0 ≡ true) where
  first : get_or v 0 0 ≡ 0x24
  unfolding sync_at
  first = eqb-true (get_or v 0 0) 0x24 (both_left (eqb (get_or v 0 0) 0x24) (eqb (get_or v 1 0) 0x40) s)

  second : get_or v 1 0 ≡ 0x40
  unfolding sync_at
  second = eqb-true (get_or v 1 0) 0x40 (both_right (eqb (get_or v 0 0) 0x24) (eqb (get_or v 1 0) 0x40) s)

module _ (c : ℕ) (v : List ℕ) (s : sync_at v 0 ≡ true) (l : 8 ≤ length v) where
  long : ltb (length v) 8 ≡ false
  long = le-ltb (length v) 8 l

  length_why : allowed c (length_at v 0) ≡ false → reason_at c v 0 ≡ reason_in (judged_last c v)
  unfolding reason_at judged_last
  length_why a = simp (s, long, a, bad_length c v (omega arith) (first v s) (second v s) l a)

  module _ (a : allowed c (length_at v 0) ≡ true) where
    past_why : ends_within v 0 ≡ false → reason_at c v 0 ≡ reason_in (judged_last c v)
    unfolding reason_at ends_within
    past_why e =
        let h = leb-false (0 + length_at v 0) (length v) e in
        simp (s, long, a, e, (last_right c).past_end v (s, l, a, omega arith))

    crc_why : ends_within v 0 ≡ true → crc_right v 0 ≡ false → reason_at c v 0 ≡ reason_in (judged_last c v)
    unfolding reason_at judged_last ends_within
    crc_why e k =
        let h = leb-true (0 + length_at v 0) (length v) e in
        simp (s, long, a, e, k, bad c v (omega arith) (first v s) (second v s) l a (omega arith) k)

    frame_why : ends_within v 0 ≡ true → crc_right v 0 ≡ true → reason_at c v 0 ≡ reason_in (judged_last c v)
    unfolding reason_at judged_last ends_within
    frame_why e k =
        let h = leb-true (0 + length_at v 0) (length v) e in
        simp (s, long, a, e, k, good c v (omega arith) (first v s) (second v s) l a (omega arith) k)

front_why : (c : ℕ) (v : List ℕ) → reason_at c v 0 ≡ reason_in (judged_last c v)
unfolding reason_at
front_why c v =
    bool? (sync_at v 0)
    (λ s.
    lt? (length v) 8 (λ l. simp (s, lt-ltb (length v) 8 l, (last_right c).few_left v (s, l)))
    (λ l.
    bool? (allowed c (length_at v 0))
    (λ a.
    bool? (ends_within v 0) (λ e. bool? (crc_right v 0) (frame_why c v s l a e) (crc_why c v s l a e)) (past_why c v s l a))
    (length_why c v s l)))
    (λ s. simp (s, (last_right c).no_pair v s))

-- ---- a place has the cause that counts its reason

abbrev says_of : Cause → Option Reason → ℕ
says_of k None = 0
says_of k (Some r) = says k r

-- by what the five tests say: the pair, fewer than eight left, the length, the end, the CRC
abbrev cause_by : Cause → Bool → Bool → Bool → Bool → Bool → Bool
cause_by few s f a e r = s && f
cause_by badlen s f a e r = s && not f && not a
cause_by past s f a e r = s && not f && a && not e
cause_by badcrc s f a e r = s && not f && a && e && not r

abbrev reason_by : ℕ → Bool → Bool → Bool → Bool → Bool → Option Reason
reason_by n s f a e r =
    cond (not s) (Some NoSync)
    (cond f (Some FewLeft) (cond (not a) (Some LengthNotAllowed) (cond (not e) (Some PastEnd) (cond (not r) (Some (CrcWrong n)) None))))

says_by : (k : Cause) (n : ℕ) (s f a e r : Bool) → cond (cause_by k s f a e r) 1 0 ≡ says_of k (reason_by n s f a e r)
says_by few n false f a e r = refl
says_by few n true true a e r = refl
says_by few n true false false e r = refl
says_by few n true false true false r = refl
says_by few n true false true true false = refl
says_by few n true false true true true = refl
says_by badlen n false f a e r = refl
says_by badlen n true true a e r = refl
says_by badlen n true false false e r = refl
says_by badlen n true false true false r = refl
says_by badlen n true false true true false = refl
says_by badlen n true false true true true = refl
says_by past n false f a e r = refl
says_by past n true true a e r = refl
says_by past n true false false e r = refl
says_by past n true false true false r = refl
says_by past n true false true true false = refl
says_by past n true false true true true = refl
says_by badcrc n false f a e r = refl
says_by badcrc n true true a e r = refl
says_by badcrc n true false false e r = refl
says_by badcrc n true false true false r = refl
says_by badcrc n true false true true false = refl
says_by badcrc n true false true true true = refl

cause_says : (k : Cause) (c : ℕ) (w : List ℕ) (p : ℕ) → cond (has_cause k c w p) 1 0 ≡ says_of k (reason_at c w p)
unfolding has_cause reason_at
cause_says few c w p = says_by few (length_at w p) (sync_at w p) (ltb (length w) (p + 8)) (allowed c (length_at w p)) (ends_within w p) (crc_right w p)
cause_says badlen c w p = says_by badlen (length_at w p) (sync_at w p) (ltb (length w) (p + 8)) (allowed c (length_at w p)) (ends_within w p) (crc_right w p)
cause_says past c w p = says_by past (length_at w p) (sync_at w p) (ltb (length w) (p + 8)) (allowed c (length_at w p)) (ends_within w p) (crc_right w p)
cause_says badcrc c w p = says_by badcrc (length_at w p) (sync_at w p) (ltb (length w) (p + 8)) (allowed c (length_at w p)) (ends_within w p) (crc_right w p)

-- ---- at any place, and while the run is fed

module _ (c : ℕ) where
  last_why : (w : List ℕ) (p : ℕ) → p ≤ length w → reason_at c w p ≡ reason_in (judged_last c (drop p w))
  last_why w p l = sym (reason_drops c w p l) ∙ front_why c (drop p w)

  -- what is no frame while the run is fed is none at its end, whatever then follows, and for the same reason
  fed_last : (v zs : List ℕ) (r : Reason) → judged c v ≡ NoFrame r → judged_last c (v ++ zs) ≡ NoFrame r
  unfolding judged_last
  fed_last v zs r e =
      ap (λ (x : Verdict). last_by x (v ++ zs)) ((judging c).stays v zs (λ u. let z : ◌≡◌ {A = ℕ} 0 1 = cc in omega arith) ∙ e)

  no_reason : (v : List ℕ) (x : Verdict) → judged_last c v ≡ x → reason_in x ≡ None → frame_at c v 0 ≡ true
  no_reason v (NoFrame r) e n = let z : ◌≡◌ {A = ℕ} 0 1 = cc in let f : ⊥ = omega arith in absurd f
  no_reason v (Frame n) e t = (judged_front c v n (last_frame c v n e)).0
  no_reason v Undecided e n = absurd (last_decides c v e)

  pub why_right : WhyRight c
  why_right =
      record {
        frame = λ w p l h.
            let f = front_judged c (drop p w) (frame_drops w p (omega arith) c ∙ h) in
            last_why w p (omega arith) ∙ ap reason_in (frame_last c (drop p w) (length_at (drop p w) 0) f);
        none_left = λ w p l h.
            let m : p ≤ length w = omega arith in
            sym (frame_drops w p m c) ∙ no_reason (drop p w) (judged_last c (drop p w)) refl (sym (last_why w p m) ∙ h);
        last = λ w p r l h. last_why w p (omega arith) ∙ ap reason_in h;
        fed = λ w more p r l h.
            let m : p ≤ length w = omega arith in
            last_why (w ++ more) p (omega (arith, length-append w more))
            ∙ ap reason_in (ap (judged_last c) (drop-append-le p w more m) ∙ fed_last (drop p w) more r h);
        cause = λ k w p r h. cause_says k c w p ∙ ap (says_of k) h;
      }

-- ---- from place to place

-- v is the run w from the place p on
record From (w : List ℕ) (p : ℕ) (v : List ℕ) : Type 0 where
  within : p ≤ length w
  is : drop p w ≡ v

from_next : {w : List ℕ} {p b : ℕ} {bs : List ℕ} → From w p (b ∷ bs) → From w (p + 1) bs
from_next {w} {p} {b} {bs} f =
    let e : length (drop p w) ≡ suc (length bs) = ap length f.is in
    record {
      within = omega (arith, e, length-drop p w);
      is = sym (drop-drop 1 p w) ∙ ap (drop 1) f.is;
    }

module _ {w : List ℕ} {p : ℕ} {v : List ℕ} (f : From w p v) where
  reason_from : (c : ℕ) → reason_at c w p ≡ reason_in (judged_last c v)
  reason_from c = last_why c w p f.within ∙ ap (λ (u : List ℕ). reason_in (judged_last c u)) f.is

  sync_from : sync_at w p ≡ sync_at v 0
  sync_from = sym (sync_drops w p f.within) ∙ ap (λ (u : List ℕ). sync_at u 0) f.is

-- ---- of the four causes one counts a skipped place with the pair, and none one without it

abbrev counts : Option Reason → ℕ
counts o = says_of few o + says_of badlen o + says_of past o + says_of badcrc o

module _ (c : ℕ) (v : List ℕ) where
  -- with any other reason the pair stands there
  paired : {r : Reason} → judged_last c v ≡ NoFrame r → (NoFrame NoSync ≡ NoFrame r → ⊥) → sync_at v 0 ≡ true
  paired e n = bool? (sync_at v 0) (λ s. s) (λ s. absurd (n (sym ((last_right c).no_pair v s) ∙ e)))

  counts_pair : (r : Reason) → judged_last c v ≡ NoFrame r → counts (Some r) ≡ cond (sync_at v 0) 1 0
  counts_pair NoSync e = rw ((last_right c).pair v e) refl
  counts_pair LengthNotAllowed e = rw (paired e (λ q. let z : ◌≡◌ {A = ℕ} 0 1 = cc in omega arith)) refl
  counts_pair (CrcWrong n) e = rw (paired e (λ q. let z : ◌≡◌ {A = ℕ} 0 1 = cc in omega arith)) refl
  counts_pair FewLeft e = rw (paired e (λ q. let z : ◌≡◌ {A = ℕ} 0 1 = cc in omega arith)) refl
  counts_pair PastEnd e = rw (paired e (λ q. let z : ◌≡◌ {A = ℕ} 0 1 = cc in omega arith)) refl

  counts_by : (x : Verdict) → judged_last c v ≡ x → frame_at c v 0 ≡ false → counts (reason_in x) ≡ cond (sync_at v 0) 1 0
  counts_by (NoFrame r) e n = counts_pair r e
  counts_by (Frame k) e n = never (judged_front c v k (last_frame c v k e)).0 n
  counts_by Undecided e n = absurd (last_decides c v e)

module _ (c : ℕ) (w : List ℕ) where
  abbrev Sum : List ℕ → Type 0
  Sum ps = caused_at few c w ps + caused_at badlen c w ps + caused_at past c w ps + caused_at badcrc c w ps ≡ pairs_at w ps

  sum_place : (p : ℕ) (v : List ℕ) → From w p v → frame_at c v 0 ≡ false → counts (reason_at c w p) ≡ cond (sync_at w p) 1 0
  sum_place p v f n =
      ap counts (reason_from f c) ∙ counts_by c v (judged_last c v) refl n ∙ ap (λ (s : Bool). cond s 1 0) (sym (sync_from f))

  sum_by : (f : Bool) (p b : ℕ) (bs : List ℕ) (go : ℕ → Reading) → From w p (b ∷ bs) → frame_at c (b ∷ bs) 0 ≡ f
      → ((k : ℕ) → Sum (go k).skipped) → Sum (read_by f p (b ∷ bs) go).skipped
  unfolding caused_at pairs_at
  sum_by true p b bs go f e rec = rec _
  sum_by false p b bs go f e rec =
      omega (arith, cause_says few c w p, cause_says badlen c w p, cause_says past c w p, cause_says badcrc c w p, sum_place p (b ∷ bs) f e, rec 0)

  sum_from : (v : List ℕ) (p k : ℕ) → From w p v → Sum (read_from c p k v).skipped
  unfolding read_from caused_at pairs_at
  sum_from [] p zero f = refl
  sum_from [] p (suc k) f = refl
  sum_from (b ∷ bs) p (suc k) f = sum_from bs (p + 1) k (from_next f)
  sum_from (b ∷ bs) p zero f =
      sum_by (frame_at c (b ∷ bs) 0) p b bs (λ k. read_from c (p + 1) k bs) f refl (λ k. sum_from bs (p + 1) k (from_next f))

pub causes_sum : (c : ℕ) → CausesSum c
unfolding read_run
causes_sum c w = sum_from c w w 0 0 (record { within = omega arith; is = refl })

-- ---- counts of places and of reasons, put together

pub caused_append : (k : Cause) (c : ℕ) (w ps qs : List ℕ) → caused_at k c w (ps ++ qs) ≡ caused_at k c w ps + caused_at k c w qs
unfolding caused_at
caused_append k c w [] qs = omega arith
caused_append k c w (p ∷ ps) qs = omega (arith, caused_append k c w ps qs)

pub how_many_append : (k : Cause) (xs ys : List Reason) → how_many k (xs ++ ys) ≡ how_many k xs + how_many k ys
unfolding how_many
how_many_append k [] ys = omega arith
how_many_append k (x ∷ xs) ys = omega (arith, how_many_append k xs ys)

-- ---- what one call passes over

-- the places of w from p on have these reasons, in this order
data Reasons (c : ℕ) (w : List ℕ) : ℕ → List Reason → Type 0 where
  no_more : (p : ℕ) → Reasons c w p []
  one_more : (p : ℕ) (r : Reason) (rs : List Reason) → reason_at c w p ≡ Some r → Reasons c w (p + 1) rs → Reasons c w p (r ∷ rs)

module _ (c : ℕ) (w : List ℕ) where
  reasons_append : {p : ℕ} {rs : List Reason} (qs : List Reason) → Reasons c w p rs → Reasons c w (p + length rs) qs → Reasons c w p (rs ++ qs)
  reasons_append qs (no_more p) q = subst (λ (i : ℕ). Reasons c w i qs) (add-zero p) q
  reasons_append qs (one_more p r rs e more) q =
      let a : p + suc (length rs) ≡ p + 1 + length rs = omega arith in
      one_more p r (rs ++ qs) e (reasons_append qs more (subst (λ (i : ℕ). Reasons c w i qs) a q))

  caused_reasons : (k : Cause) {p : ℕ} {rs : List Reason} → Reasons c w p rs → caused_at k c w (places_from p (length rs)) ≡ how_many k rs
  unfolding caused_at places_from how_many
  caused_reasons k (no_more p) = refl
  caused_reasons k (one_more p r rs e more) = ap₂ (λ (x y : ℕ). x + y) (cause_says k c w p ∙ ap (says_of k) e) (caused_reasons k more)

  -- what the judge passes over, the judge of the run's end does for the same reason, where zs follows
  abbrev Gives : (List ℕ → Verdict) → List ℕ → Type 0
  Gives judge zs = (v : List ℕ) (r : Reason) → judge v ≡ NoFrame r → judged_last c (v ++ zs) ≡ NoFrame r

  module _ (judge : List ℕ → Verdict) (zs : List ℕ) (gives : Gives judge zs) where
    settle_by_lem : (x : Verdict) (p b : ℕ) (bs : List ℕ) (next : Settled) → judge (b ∷ bs) ≡ x → From w p (b ∷ bs ++ zs)
        → Reasons c w (p + 1) next.passed → Reasons c w p (settle_by x (b ∷ bs) next).passed
    settle_by_lem (NoFrame r) p b bs next e f rec =
        one_more p r next.passed (reason_from f c ∙ ap reason_in (gives (b ∷ bs) r e)) rec
    settle_by_lem (Frame n) p b bs next e f rec = no_more p
    settle_by_lem Undecided p b bs next e f rec = no_more p

    settle_reasons : (h : List ℕ) (p : ℕ) → From w p (h ++ zs) → Reasons c w p (settle judge h).passed
    unfolding settle
    settle_reasons [] p f = no_more p
    settle_reasons (b ∷ bs) p f =
        settle_by_lem (judge (b ∷ bs)) p b bs (settle judge bs) refl f (settle_reasons bs (p + 1) (from_next f))

  from_rest : (judge : List ℕ → Verdict) (h ys : List ℕ) (p : ℕ) → From w p (h ++ ys)
      → From w (p + length (settle judge h).passed) ((settle judge h).rest ++ ys)
  from_rest judge h ys p f =
      let k = length (settle judge h).passed in
      let r = settle_rest judge h in
      let e : length (drop p w) ≡ length h + length ys = ap length f.is ∙ length-append h ys in
      record {
        within = omega (arith, e, length-drop p w, r.few, f.within);
        is = sym (drop-drop k p w) ∙ ap (drop k) f.is ∙ drop-append-le k h ys r.few ∙ ap (λ (v : List ℕ). v ++ ys) (sym r.is);
      }

  module _ (zs : List ℕ) where
    abbrev Fed : ℕ → List ℕ → List ℕ → Intake → Type 0
    Fed p h piece f = From w p (h ++ (take f.taken piece ++ zs)) → Reasons c w p f.passed

    feed_by_lem : (o : Option ℕ) (p : ℕ) (h : List ℕ) (b : ℕ) (bs : List ℕ) (next : Intake)
        → Fed (p + length (settle (judged c) h).passed) ((settle (judged c) h).rest ++ b ∷ []) bs next
        → Fed p h (b ∷ bs) (unless_block o (settle (judged c) h) next)
    feed_by_lem (Some n) p h b bs next rec f = settle_reasons (judged c) zs (λ v. fed_last c v zs) h p f
    feed_by_lem None p h b bs next rec f =
        let s = settle (judged c) h in
        let ys = take next.taken bs ++ zs in
        let q = from_rest (judged c) h (b ∷ ys) p f in
        reasons_append next.passed (settle_reasons (judged c) (b ∷ ys) (λ v. fed_last c v (b ∷ ys)) h p f)
        (rec (record { within = q.within; is = q.is ∙ sym (append_snoc s.rest b ys) }))

    feed_reasons : (piece : List ℕ) (room p : ℕ) (h : List ℕ) → Fed p h piece (feed_lit c h piece room)
    unfolding feed_by
    feed_reasons [] room p h f = settle_reasons (judged c) zs (λ v. fed_last c v zs) h p f
    feed_reasons (b ∷ bs) zero p h f = settle_reasons (judged c) zs (λ v. fed_last c v zs) h p f
    feed_reasons (b ∷ bs) (suc room) p h f =
        feed_by_lem (settle (judged c) h).standing p h b bs (feed_lit c ((settle (judged c) h).rest ++ b ∷ []) bs room)
        (feed_reasons bs room (p + length (settle (judged c) h).passed) ((settle (judged c) h).rest ++ b ∷ [])) f

-- a cause counts as many of the places that Feed passes over as of the reasons that it gives
pub fed_caused : (k : Cause) (c : ℕ) (w : List ℕ) (p : ℕ) (h piece zs : List ℕ) (room : ℕ) → p ≤ length w
    → let f = feed_lit c h piece room in drop p w ≡ h ++ (take f.taken piece ++ zs)
    → caused_at k c w (places_from p (length f.passed)) ≡ how_many k f.passed
fed_caused k c w p h piece zs room l e = caused_reasons c w k (feed_reasons c w zs piece room p h (record { within = l; is = e }))

-- and so it does of those that Finish passes over
pub last_caused : (k : Cause) (c : ℕ) (w : List ℕ) (p : ℕ) (h : List ℕ) → p ≤ length w → drop p w ≡ h
    → caused_at k c w (places_from p (length (settle (judged_last c) h).passed)) ≡ how_many k (settle (judged_last c) h).passed
last_caused k c w p h l e =
    caused_reasons c w k
    (settle_reasons c w (judged_last c) [] (λ v r g. ap (judged_last c) (append-nil v) ∙ g) h p
    (record { within = l; is = e ∙ sym (append-nil h) }))

-- ---- two of the causes count nothing before the run's end

module _ (k : Cause) (c : ℕ) (silent : (v : List ℕ) (r : Reason) → judged c v ≡ NoFrame r → says k r ≡ 0) where
  none_by : (x : Verdict) (v : List ℕ) (next : Settled) → judged c v ≡ x → how_many k next.passed ≡ 0
      → how_many k (settle_by x v next).passed ≡ 0
  unfolding how_many
  none_by (NoFrame r) v next e rec = omega (arith, silent v r e)
  none_by (Frame n) v next e rec = refl
  none_by Undecided v next e rec = refl

  settle_none : (h : List ℕ) → how_many k (settle (judged c) h).passed ≡ 0
  unfolding settle how_many
  settle_none [] = refl
  settle_none (b ∷ bs) = none_by (judged c (b ∷ bs)) (b ∷ bs) (settle (judged c) bs) refl (settle_none bs)

  block_none : (o : Option ℕ) (s : Settled) (next : Intake) → how_many k s.passed ≡ 0 → how_many k next.passed ≡ 0
      → how_many k (unless_block o s next).passed ≡ 0
  block_none (Some n) s next e f = e
  block_none None s next e f = omega (arith, how_many_append k s.passed next.passed)

  feed_none : (piece : List ℕ) (room : ℕ) (h : List ℕ) → how_many k (feed_lit c h piece room).passed ≡ 0
  unfolding feed_by
  feed_none [] room h = settle_none h
  feed_none (b ∷ bs) zero h = settle_none h
  feed_none (b ∷ bs) (suc room) h =
      let s = settle (judged c) h in
      block_none s.standing s (feed_lit c (s.rest ++ b ∷ []) bs room) (settle_none h) (feed_none bs room (s.rest ++ b ∷ []))

module _ (c : ℕ) (v : List ℕ) where
  never_few : (r : Reason) → judged c v ≡ NoFrame r → says few r ≡ 0
  never_few NoSync e = refl
  never_few LengthNotAllowed e = refl
  never_few (CrcWrong n) e = refl
  never_few FewLeft e = absurd ((last_right c).fed_not_few v e)
  never_few PastEnd e = refl

  never_past : (r : Reason) → judged c v ≡ NoFrame r → says past r ≡ 0
  never_past NoSync e = refl
  never_past LengthNotAllowed e = refl
  never_past (CrcWrong n) e = refl
  never_past FewLeft e = refl
  never_past PastEnd e = absurd ((last_right c).fed_not_past v e)

pub fed_none : (c : ℕ) (h piece : List ℕ) (room : ℕ)
    → (how_many few (feed_lit c h piece room).passed ≡ 0) × (how_many past (feed_lit c h piece room).passed ≡ 0)
fed_none c h piece room = (feed_none few c (never_few c) piece room h, feed_none past c (never_past c) piece room h)
