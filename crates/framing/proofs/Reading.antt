-- Runs read, by what settling and feeding give: what a call skips, and the block that it leaves standing, are what the rule reads there.
-- Assumes nothing.
use mathlib.Core.Path.{◌≡◌, refl, sym, ap, ap₂, ◌∙◌, subst}
use mathlib.Core.Logic.{⊎_elim}
use mathlib.Core.List.{List, [], ◌∷◌, ◌++◌, append-nil, append_assoc}
use mathlib.Core.Bool.{Bool, true, false}
use Rattle.std.proofs.Common.{Option, None, Some}
use Prim.Native.Nat.{ℕ, zero, suc, ◌+◌, ◌-◌, ◌≤◌}
use native.Mathlib.Nat.{add-zero, zero-add, add_assoc}
use native.Mathlib.Numerals.{add-one}
use native.Mathlib.Omega.{arith}
use lib.ListN.{length, take, drop, get_or, length-append}
use lib.Seq.{drop-append-le, take-append-le, append_snoc, drop-drop, drop-length, drop-cons}
use Rattle.frame.specs.Frame.{length_at, frame_at}
use Rattle.frame.specs.Judge.{judged, judged_last}
use Rattle.frame.specs.declared.Reason.{Reason}
use Rattle.frame.specs.declared.Verdict.{Verdict}
use Rattle.frame.specs.declared.Verdict.TheVariants.{NoFrame, Frame, Undecided}
use Rattle.wire.proofs.Tests.{bool?}
use Rattle.frame.proofs.Standing.{front_judged, judged_front}
use Rattle.scan.specs.Settle.{Settled, settle_by, settle}
use Rattle.scan.specs.Feed.{Intake, unless_block, feed_by, feed_lit, size}
use Rattle.scan.proofs.Judging.{There}
use Rattle.scan.proofs.Stable.{judging, frame_last, last_frame, last_decides}
use Rattle.scan.proofs.Settling.{Stopped, settle_stopped}
use Rattle.scan.proofs.Calls.{fed_stopped}
use Rattle.framing.specs.ReadRun.{ReadBlock, block_at, Reading, nothing_read, block_then, skip_then, read_by, read_from, read_run}
use Rattle.framing.specs.Theorems.{ReadByTheRule}
use Rattle.framing.proofs.Standing.{frame_drops, length_drops}

-- ---- readings put together

-- one reading, and then another
abbrev pub both : Reading → Reading → Reading
both r s = record { blocks = r.blocks ++ s.blocks; skipped = r.skipped ++ s.skipped }

-- the place p and those behind it, n in all
unfoldable pub places_from : ℕ → ℕ → List ℕ
places_from p zero = []
places_from p (suc n) = p ∷ places_from (p + 1) n

-- so many places from p on are skipped first
abbrev pub skip_many : ℕ → ℕ → Reading → Reading
skip_many p n r = record { blocks = r.blocks; skipped = places_from p n ++ r.skipped }

-- the block at the front of v, where one stands; v begins at the place p
abbrev pub blocks_of : Option ℕ → ℕ → List ℕ → List ReadBlock
blocks_of None p v = []
blocks_of (Some n) p v = block_at p n v ∷ []

-- what one call answers that began at the place p, skipped so many bytes and left v
abbrev pub answer : Option ℕ → ℕ → ℕ → List ℕ → Reading
answer o p skipped v = record { blocks = blocks_of o (p + skipped) v; skipped = places_from p skipped }

places_add : (p a b : ℕ) → places_from p a ++ places_from (p + a) b ≡ places_from p (a + b)
unfolding places_from
places_add p zero b = ap₂ (λ (i k : ℕ). places_from i k) (add-zero p) (sym (zero-add b))
places_add p (suc a) b =
    let e : p + suc a ≡ p + 1 + a = omega arith in
    let f : suc (a + b) ≡ suc a + b = omega arith in
    ap (λ (i : ℕ). p ∷ places_from (p + 1) a ++ places_from i b) e ∙ ap (λ (l : List ℕ). p ∷ l) (places_add (p + 1) a b)
    ∙ ap (places_from p) f

skip_none : (p : ℕ) (r : Reading) → skip_many p 0 r ≡ r
unfolding places_from
skip_none p r = refl

skip-skip : (p a b : ℕ) (r : Reading) → skip_many p a (skip_many (p + a) b r) ≡ skip_many p (a + b) r
skip-skip p a b r =
    ap (λ (l : List ℕ). record { blocks = r.blocks; skipped = l })
    (sym (append_assoc (places_from p a) (places_from (p + a) b) r.skipped) ∙ ap (λ (l : List ℕ). l ++ r.skipped) (places_add p a b))

pub both_both : (a b c : Reading) → both a (both b c) ≡ both (both a b) c
both_both a b c =
    ap₂ (λ (x : List ReadBlock) (k : List ℕ). record { blocks = x; skipped = k }) (sym (append_assoc a.blocks b.blocks c.blocks))
    (sym (append_assoc a.skipped b.skipped c.skipped))

-- a block is told by its bytes alone
block_is_lem : (p n : ℕ) (v zs : List ℕ) → n ≤ length v → block_at p n (v ++ zs) ≡ block_at p n v
unfolding block_at
block_is_lem p n v zs l = rw (take-append-le n v zs l)

-- ---- the rule of a run

module _ (c : ℕ) where
  pub read_end : (p : ℕ) → read_run c p [] ≡ nothing_read
  unfolding read_run read_from
  read_end p = refl

  read-pass : (w : List ℕ) (p k : ℕ) → read_from c p k w ≡ read_run c (p + k) (drop k w)
  unfolding read_run read_from
  read-pass [] p zero = refl
  read-pass [] p (suc k) = refl
  read-pass (b ∷ bs) p zero = ap (λ (x : ℕ). read_run c x (b ∷ bs)) (sym (add-zero p))
  read-pass (b ∷ bs) p (suc k) =
      let e : p + 1 + k ≡ p + suc k = omega arith in read-pass bs (p + 1) k ∙ ap (λ (x : ℕ). read_run c x (drop k bs)) e

  read_skip : (p b : ℕ) (bs : List ℕ) → frame_at c (b ∷ bs) 0 ≡ false → read_run c p (b ∷ bs) ≡ skip_then p (read_run c (p + 1) bs)
  unfolding read_run read_from
  read_skip p b bs e = ap (λ (f : Bool). read_by f p (b ∷ bs) (λ k. read_from c (p + 1) k bs)) e

  frame_read : (p b : ℕ) (bs : List ℕ) → frame_at c (b ∷ bs) 0 ≡ true
      → read_run c p (b ∷ bs) ≡ block_then (block_at p (length_at (b ∷ bs) 0) (b ∷ bs)) (read_from c (p + 1) (length_at (b ∷ bs) 0 - 1) bs)
  unfolding read_run read_from
  frame_read p b bs e = ap (λ (f : Bool). read_by f p (b ∷ bs) (λ k. read_from c (p + 1) k bs)) e

  -- a frame that is judged is read as a block
  pub read_frame : (p n : ℕ) (v : List ℕ) → judged c v ≡ Frame n → read_run c p v ≡ block_then (block_at p n v) (read_run c (p + n) (drop n v))
  read_frame p n [] e = let z : ◌≡◌ {A = ℕ} 0 1 = cc (judging c).empty in let f : ⊥ = omega arith in absurd f
  read_frame p n (b ∷ bs) e =
      let t : There n (b ∷ bs) = rw e at ((judging c).fits (b ∷ bs)) in
      let f = judged_front c (b ∷ bs) n e in
      let m : n ≡ suc (n - 1) = omega (arith, t.eight) in
      let a : p + 1 + (n - 1) ≡ p + n = omega (arith, t.eight) in
      frame_read p b bs f.0
      ∙ ap (λ (k : ℕ). block_then (block_at p k (b ∷ bs)) (read_from c (p + 1) (k - 1) bs)) (sym f.1)
      ∙ ap (block_then (block_at p n (b ∷ bs)))
      (read-pass bs (p + 1) (n - 1)
      ∙ ap₂ (λ (i : ℕ) (k : List ℕ). read_run c i k) a (ap (λ (k : ℕ). drop k (b ∷ bs)) (sym m)))

  rule_skip : (w : List ℕ) (p : ℕ) (x : ℕ) (bs : List ℕ) → drop p w ≡ x ∷ bs → p ≤ length w → frame_at c w p ≡ false
      → read_run c p (drop p w) ≡ skip_then p (read_run c (p + 1) bs)
  rule_skip w p x bs d l h = ap (read_run c p) d ∙ read_skip p x bs (ap (λ (v : List ℕ). frame_at c v 0) (sym d) ∙ frame_drops w p l c ∙ h)

  pub rule : ReadByTheRule c
  rule =
      record {
        end = λ w. ap (read_run c (length w)) (drop-length w) ∙ read_end (length w);
        block = λ w p l h.
            let m : p ≤ length w = omega arith in
            read_frame p (length_at w p) (drop p w) (front_judged c (drop p w) (frame_drops w p m c ∙ h) ∙ ap Frame (length_drops w p m))
            ∙ ap (λ (k : List ℕ). block_then (block_at p (length_at w p) (drop p w)) (read_run c (p + length_at w p) k)) (drop-drop (length_at w p) p w);
        skip = λ w p l h. rule_skip w p (get_or w p 0) (drop (p + 1) w) (rw (add-one, drop-cons w p 0)) (omega arith) h;
      }

  -- ---- settling

  stay : (p : ℕ) (w : List ℕ) → read_run c p w ≡ skip_many p 0 (read_run c (p + 0) w)
  stay p w = ap (λ (x : ℕ). read_run c x w) (sym (add-zero p)) ∙ sym (skip_none p (read_run c (p + 0) w))

  -- one byte skipped, and then s
  more : (p s : ℕ) (bs v : List ℕ) → read_run c (p + 1) bs ≡ skip_many (p + 1) s (read_run c (p + 1 + s) v)
      → skip_then p (read_run c (p + 1) bs) ≡ skip_many p (suc s) (read_run c (p + suc s) v)
  unfolding places_from
  more p s bs v e =
      let a : p + 1 + s ≡ p + suc s = omega arith in
      ap (skip_then p) e ∙ ap (λ (k : ℕ). skip_many p (suc s) (read_run c k v)) a

  -- what the judge passes over is no frame with zs behind it either
  abbrev pub Skips : (List ℕ → Verdict) → List ℕ → Type 0
  Skips judge zs = (v : List ℕ) (r : Reason) → judge v ≡ NoFrame r → frame_at c (v ++ zs) 0 ≡ false

  pub fed_skips : (zs : List ℕ) → Skips (judged c) zs
  fed_skips zs v r e =
      bool? (frame_at c (v ++ zs) 0)
      (λ f.
      let s : judged c (v ++ zs) ≡ judged c v = (judging c).stays v zs (λ u. let z : ◌≡◌ {A = ℕ} 0 1 = cc in omega arith) in
      let z : ◌≡◌ {A = ℕ} 0 1 = cc (front_judged c (v ++ zs) f) in
      let g : ⊥ = omega arith in
      absurd g)
      (λ f. f)

  pub last_skips : Skips (judged_last c) []
  last_skips v r e =
      bool? (frame_at c (v ++ []) 0)
      (λ f.
      let j : judged c v ≡ Frame (length_at v 0) = front_judged c v (ap (λ (w : List ℕ). frame_at c w 0) (sym (append-nil v)) ∙ f) in
      let z : ◌≡◌ {A = ℕ} 0 1 = cc (frame_last c v (length_at v 0) j) in
      let g : ⊥ = omega arith in
      absurd g)
      (λ f. f)

  module _ (judge : List ℕ → Verdict) (zs : List ℕ) (skips : Skips judge zs) where
    abbrev Same : ℕ → List ℕ → Settled → Type 0
    Same p h s = read_run c p (h ++ zs) ≡ skip_many p (length s.passed) (read_run c (p + length s.passed) (s.rest ++ zs))

    settle_by_lem : (x : Verdict) (p b : ℕ) (bs : List ℕ) (next : Settled) → judge (b ∷ bs) ≡ x → Same (p + 1) bs next → Same p (b ∷ bs) (settle_by x (b ∷ bs) next)
    settle_by_lem (NoFrame r) p b bs next e rec =
        read_skip p b (bs ++ zs) (skips (b ∷ bs) r e) ∙ more p (length next.passed) (bs ++ zs) (next.rest ++ zs) rec
    settle_by_lem (Frame n) p b bs next e rec = stay p (b ∷ bs ++ zs)
    settle_by_lem Undecided p b bs next e rec = stay p (b ∷ bs ++ zs)

    pub settle_read : (h : List ℕ) (p : ℕ) → Same p h (settle judge h)
    unfolding settle
    settle_read [] p = stay p zs
    settle_read (b ∷ bs) p = settle_by_lem (judge (b ∷ bs)) p b bs (settle judge bs) refl (settle_read bs (p + 1))

  -- ---- one call of feed

  module _ (judge : List ℕ → Verdict) (zs : List ℕ) (skips : (ys : List ℕ) → Skips judge ys) where
    abbrev FedSame : ℕ → List ℕ → List ℕ → Intake → Type 0
    FedSame p h piece f =
        read_run c p (h ++ (take f.taken piece ++ zs)) ≡ skip_many p (length f.passed) (read_run c (p + length f.passed) (f.held ++ zs))

    feed_by_lem : (o : Option ℕ) (p : ℕ) (h : List ℕ) (b : ℕ) (bs : List ℕ) (next : Intake)
        → FedSame (p + length (settle judge h).passed) ((settle judge h).rest ++ b ∷ []) bs next
        → FedSame p h (b ∷ bs) (unless_block o (settle judge h) next)
    feed_by_lem (Some n) p h b bs next rec = settle_read judge zs (skips zs) h p
    feed_by_lem None p h b bs next rec =
        let s = settle judge h in
        let k = length (settle judge h).passed in
        let l = length next.passed in
        let e : k + l ≡ length (s.passed ++ next.passed) = sym (length-append s.passed next.passed) in
        settle_read judge (b ∷ take next.taken bs ++ zs) (skips (b ∷ take next.taken bs ++ zs)) h p
        ∙ ap (λ (v : List ℕ). skip_many p k (read_run c (p + k) v)) (sym (append_snoc s.rest b (take next.taken bs ++ zs)))
        ∙ ap (skip_many p k) rec
        ∙ skip-skip p k l (read_run c (p + k + l) (next.held ++ zs))
        ∙ ap (λ (i : ℕ). skip_many p (k + l) (read_run c i (next.held ++ zs))) (add_assoc p k l)
        ∙ ap (λ (i : ℕ). skip_many p i (read_run c (p + i) (next.held ++ zs))) e

    pub feed_read : (piece : List ℕ) (room p : ℕ) (h : List ℕ) → FedSame p h piece (feed_by judge h piece room)
    unfolding feed_by
    feed_read [] room p h = settle_read judge zs (skips zs) h p
    feed_read (b ∷ bs) zero p h = settle_read judge zs (skips zs) h p
    feed_read (b ∷ bs) (suc room) p h =
        feed_by_lem (settle judge h).standing p h b bs (feed_by judge ((settle judge h).rest ++ b ∷ []) bs room)
        (feed_read bs room (p + length (settle judge h).passed) ((settle judge h).rest ++ b ∷ []))

  -- ---- what a call answers

  -- the standing block, judged while the run is fed
  abbrev pub StandsThere : Option ℕ → List ℕ → Type 0
  StandsThere None v = Unit {0}
  StandsThere (Some n) v = judged c v ≡ Frame n

  stands_if : (judge : List ℕ → Verdict) → ((v : List ℕ) (n : ℕ) → judge v ≡ Frame n → judged c v ≡ Frame n)
      → (o : Option ℕ) (v : List ℕ) → Stopped judge o v → StandsThere o v
  stands_if judge f None v s = tt
  stands_if judge f (Some n) v s = f v n s

  pub fed_stands : (piece : List ℕ) (room : ℕ) (h : List ℕ) → StandsThere (feed_lit c h piece room).standing (feed_lit c h piece room).held
  fed_stands piece room h =
      let f = feed_lit c h piece room in stands_if (judged c) (λ v n e. e) f.standing f.held (fed_stopped (judged c) piece room h)

  pub last_stands : (h : List ℕ) → StandsThere (settle (judged_last c) h).standing (settle (judged_last c) h).rest
  last_stands h = let s = settle (judged_last c) h in stands_if (judged_last c) (last_frame c) s.standing s.rest (settle_stopped (judged_last c) h)

  -- with none standing nothing is left
  pub last_empty : (h : List ℕ) → (settle (judged_last c) h).standing ≡ None → (settle (judged_last c) h).rest ≡ []
  last_empty h e =
      let s = settle (judged_last c) h in
      ⊎_elim (λ z. z) (λ u. absurd (last_decides c s.rest u)) (subst (λ (o : Option ℕ). Stopped (judged_last c) o s.rest) e (settle_stopped (judged_last c) h))

  framed : (p n : ℕ) (v zs : List ℕ) → judged c v ≡ Frame n → read_run c p (v ++ zs) ≡ block_then (block_at p n v) (read_run c (p + n) (drop n v ++ zs))
  framed p n v zs e =
      let t : There n v = rw e at ((judging c).fits v) in
      read_frame p n (v ++ zs) ((judging c).stays v zs (λ w. let z : ◌≡◌ {A = ℕ} 0 1 = cc in omega arith) ∙ e)
      ∙ ap₂ (λ (b : ReadBlock) (k : List ℕ). block_then b (read_run c (p + n) k)) (block_is_lem p n v zs t.within) (drop-append-le n v zs t.within)

  answered : (o : Option ℕ) (p s : ℕ) (v zs : List ℕ) → StandsThere o v
      → skip_many p s (read_run c (p + s) (v ++ zs)) ≡ both (answer o p s v) (read_run c (p + s + size o) (drop (size o) v ++ zs))
  answered None p s v zs e = ap (λ (k : ℕ). skip_many p s (read_run c k (v ++ zs))) (sym (add-zero (p + s)))
  answered (Some n) p s v zs e = ap (skip_many p s) (framed (p + s) n v zs e)

  -- Feed answers what the rule reads up to where it goes on
  pub fed_answers : (piece : List ℕ) (room p : ℕ) (h zs : List ℕ) → let f = feed_lit c h piece room in
      read_run c p (h ++ (take f.taken piece ++ zs))
      ≡ both (answer f.standing p (length f.passed) f.held) (read_run c (p + length f.passed + size f.standing) (drop (size f.standing) f.held ++ zs))
  fed_answers piece room p h zs =
      let f = feed_lit c h piece room in
      feed_read (judged c) zs fed_skips piece room p h ∙ answered f.standing p (length f.passed) f.held zs (fed_stands piece room h)

  -- and so does Finish, behind which nothing follows
  pub last_answers : (p : ℕ) (h : List ℕ) → let s = settle (judged_last c) h in
      read_run c p (h ++ [])
      ≡ both (answer s.standing p (length s.passed) s.rest) (read_run c (p + length s.passed + size s.standing) (drop (size s.standing) s.rest ++ []))
  last_answers p h =
      let s = settle (judged_last c) h in
      settle_read (judged_last c) [] last_skips h p ∙ answered s.standing p (length s.passed) s.rest [] (last_stands h)
