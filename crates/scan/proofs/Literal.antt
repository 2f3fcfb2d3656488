-- Settling all bytes at once gives what feeding a byte at a time gives, over any judge that runs may ask for.
-- Assumes nothing.
use mathlib.Core.Path.{◌≡◌, refl, sym, ap, ap₂, ◌∙◌, subst}
use mathlib.Core.Logic.{⊎_elim}
use mathlib.Core.List.{List, [], ◌∷◌, ◌++◌, append-nil}
use Rattle.std.proofs.Common.{Option, None, Some}
use Prim.Native.Nat.{ℕ, zero, suc, max, ◌+◌, ◌-◌, ◌≤◌, ◌<◌}
use native.Mathlib.Omega.{arith}
use lib.ListN.{length, take, drop, length-drop, length-append}
use lib.Seq.{drop-append-le, append_snoc, drop-drop, take-nil, take_all, take-append_seam}
use Rattle.scan.specs.Settle.{Settled, settle_by, settle}
use Rattle.scan.specs.Feed.{Intake, stop, go_on, unless_block, feed_by}
use Rattle.scan.specs.Scan.{needed}
use Rattle.frame.specs.declared.Reason.{Reason}
use Rattle.frame.specs.declared.Reason.TheVariants.{NoSync, LengthNotAllowed, CrcWrong, FewLeft, PastEnd}
use Rattle.frame.specs.declared.Verdict.{Verdict}
use Rattle.frame.specs.declared.Verdict.TheVariants.{NoFrame, Frame, Undecided}
use Rattle.scan.proofs.Judging.{There, need_for, bytes_needed, Judging}
use Rattle.frame.proofs.Parts.{take_drop}
use Rattle.scan.proofs.Marks.{marks_max, marks_shift, marks_append, marks_low}
use Rattle.scan.proofs.Settling.{before, settle_rest, Stopped, settle_stopped, after, settle_after, settle_front}

-- how many bytes had to be taken, of n that were held and t in all, to pass the bytes for these reasons and come to this
abbrev pub reach : Option ℕ → List Reason → ℕ → ℕ → ℕ
reach None rs n t = t
reach (Some l) rs n t = max (needed 0 n rs) (length rs + l)

-- the run w settled, whose first n bytes were held
abbrev pub to_lit : Settled → List ℕ → ℕ → Intake
to_lit s w n =
    let t = reach s.standing s.passed n (length w) in
    record { taken = t - n; passed = s.passed; standing = s.standing; held = drop (length s.passed) (take t w) }

same : (t t' : ℕ) (rs : List Reason) (o : Option ℕ) (h h' : List ℕ) → t ≡ t' → h ≡ h'
    → ◌≡◌ {A = Intake} (record { taken = t; passed = rs; standing = o; held = h }) (record { taken = t'; passed = rs; standing = o; held = h' })
same t t' rs o h h' e f = ap₂ (λ (i : ℕ) (k : List ℕ). record { taken = i; passed = rs; standing = o; held = k }) e f

module _ (judge : List ℕ → Verdict) (laws : Judging judge) where
  -- ---- with nothing taken

  reach_low : (h : List ℕ) (o : Option ℕ) → (settle judge h).standing ≡ o → reach o (settle judge h).passed (length h) (length h) ≡ length h
  reach_low h None e = refl
  reach_low h (Some l) e =
      let r = settle_rest judge h in
      let f : l ≤ length (settle judge h).rest = rw e at (settle_front judge laws.fits h) in
      omega (arith, marks_low judge laws.fits h 0 (length h) (omega arith), r.few, ap length r.is, length-drop (length (settle judge h).passed) h)

  -- what the held bytes give by themselves
  alone : (h : List ℕ) → stop (settle judge h) ≡ to_lit (settle judge h) h (length h)
  alone h =
      let s = settle judge h in
      let e = reach_low h (settle judge h).standing refl in
      same 0 (reach s.standing s.passed (length h) (length h) - length h) s.passed s.standing s.rest _ (omega arith)
      ((settle_rest judge h).is ∙ ap (drop (length s.passed)) (sym (ap (λ (t : ℕ). take t h) e ∙ take_all (length h) h (omega arith))))

  at_end : (h ys : List ℕ) → ys ≡ [] → stop (settle judge h) ≡ to_lit (settle judge (h ++ ys)) (h ++ ys) (length h)
  at_end h ys z = alone h ∙ ap (λ (w : List ℕ). to_lit (settle judge w) w (length h)) (sym (ap (λ (k : List ℕ). h ++ k) z ∙ append-nil h))

  -- a block stands in the held bytes: more bytes change nothing
  by_block : (h ys : List ℕ) (l : ℕ) → (settle judge h).standing ≡ Some l → stop (settle judge h) ≡ to_lit (settle judge (h ++ ys)) (h ++ ys) (length h)
  by_block h ys l e =
      let s = settle judge h in
      let t : max (needed 0 (length h) s.passed) (length s.passed + l) ≡ length h = reach_low h (Some l) e in
      let a : settle judge (h ++ ys) ≡ after judge laws ys (Some l) s.passed s.rest =
      settle_after judge laws ys h ∙ ap (λ (o : Option ℕ). after judge laws ys o s.passed s.rest) e in
      ap (λ (o : Option ℕ). record { taken = 0; passed = s.passed; standing = o; held = s.rest }) e
      ∙ same 0 (max (needed 0 (length h) s.passed) (length s.passed + l) - length h) s.passed (Some l) s.rest _ (omega arith)
      ((settle_rest judge h).is ∙ ap (drop (length s.passed)) (sym (ap (λ (i : ℕ). take i (h ++ ys)) t ∙ take-append_seam h ys)))
      ∙ ap (λ (k : Settled). to_lit k (h ++ ys) (length h)) (sym a)

  -- ---- one byte more

  -- an undecided place: what comes to be decided there needs a byte more
  Needs : ℕ → Settled → Type 0
  Needs k s = (l : ℕ) → s.standing ≡ Some l → k < max (needed 0 0 s.passed) (length s.passed + l)

  needs_first : (r : Reason) (k p : ℕ) → k < need_for r → (rs : List Reason) (l : ℕ) → 8 ≤ l → k < max (needed 0 0 (r ∷ rs)) (suc (length rs) + l)
  unfolding needed
  needs_first NoSync k p h rs l e = omega arith
  needs_first LengthNotAllowed k p h rs l e = omega arith
  needs_first (CrcWrong n) k p h rs l e = omega (arith, marks_max rs (0 + 1) (max 0 (0 + n)))
  needs_first FewLeft k p h rs l e = omega arith
  needs_first PastEnd k p h rs l e = omega arith

  big : (h : List ℕ) (l : ℕ) → (settle judge h).standing ≡ Some l → 8 ≤ l
  big h l e =
      let q : judge (settle judge h).rest ≡ Frame l = subst (λ (o : Option ℕ). Stopped judge o (settle judge h).rest) e (settle_stopped judge h) in
      let t : There l (settle judge h).rest = rw q at (laws.fits (settle judge h).rest) in
      t.eight

  needs_by : (x : Verdict) (k b : ℕ) (bs : List ℕ) → judge (b ∷ bs) ≡ x → ((x ≡ Undecided → ⊥) → k < bytes_needed x) → Needs k (settle_by x (b ∷ bs) (settle judge bs))
  unfolding Needs needed
  needs_by (NoFrame r) k b bs e n l f =
      needs_first r k 0 (n (λ u. let z : ◌≡◌ {A = ℕ} 0 1 = cc in omega arith)) (settle judge bs).passed l (big bs l f)
  needs_by (Frame m) k b bs e n l f =
      let q : m ≡ l = cc in omega (arith, n (λ u. let z : ◌≡◌ {A = ℕ} 0 1 = cc in omega arith))
  needs_by Undecided k b bs e n l f = let z : ◌≡◌ {A = ℕ} 0 1 = cc in let g : ⊥ = omega arith in absurd g

  needs : (v : List ℕ) (k : ℕ) → ((judge v ≡ Undecided → ⊥) → k < bytes_needed (judge v)) → Needs k (settle judge v)
  unfolding settle Needs
  needs [] k n l f = let z : ◌≡◌ {A = ℕ} 0 1 = cc in let g : ⊥ = omega arith in absurd g
  needs (b ∷ bs) k n l f = needs_by (judge (b ∷ bs)) k b bs refl n l f

  -- the bytes that had to be taken, counted from the start of the run and from behind what was passed
  further : (o : Option ℕ) (ps rs : List Reason) (n k t : ℕ) → n ≡ length ps + k → needed 0 n ps ≡ n
      → ((l : ℕ) → o ≡ Some l → k < max (needed 0 0 rs) (length rs + l))
      → reach o (ps ++ rs) n (length ps + t) ≡ length ps + reach o rs (suc k) t
  further None ps rs n k t e m f = refl
  further (Some l) ps rs n k t e m f =
      let a : needed 0 n (ps ++ rs) ≡ length ps + needed 0 k rs =
      marks_append ps rs 0 n ∙ ap₂ (λ (i j : ℕ). needed i j rs) (omega arith) (m ∙ e) ∙ marks_shift rs (length ps) 0 k in
      omega (arith, a, length-append ps rs, marks_max rs 0 k, marks_max rs 0 (suc k), f l refl)

  least : (o : Option ℕ) (rs : List Reason) (n t : ℕ) → n ≤ t → n ≤ reach o rs n t
  least None rs n t l = l
  least (Some k) rs n t l = omega (arith, marks_max rs 0 n)

  undecided : (h : List ℕ) → (settle judge h).standing ≡ None → judge (settle judge h).rest ≡ Undecided
  undecided h e =
      ⊎_elim (λ z. ap judge z ∙ laws.empty) (λ q. q) (subst (λ (o : Option ℕ). Stopped judge o (settle judge h).rest) e (settle_stopped judge h))

  by_more : (h : List ℕ) (b : ℕ) (ys : List ℕ) (next : Intake) → (settle judge h).standing ≡ None
      → next ≡ to_lit (settle judge ((settle judge h).rest ++ b ∷ [] ++ ys)) ((settle judge h).rest ++ b ∷ [] ++ ys) (length ((settle judge h).rest ++ b ∷ []))
      → go_on (settle judge h) next ≡ to_lit (settle judge (h ++ b ∷ ys)) (h ++ b ∷ ys) (length h)
  unfolding Needs
  by_more h b ys next e rec =
      let ps = (settle judge h).passed in
      let r = (settle judge h).rest in
      let sr = settle_rest judge h in
      let w : List ℕ = h ++ b ∷ ys in
      let v : List ℕ = (settle judge h).rest ++ b ∷ ys in
      let s = settle judge ((settle judge h).rest ++ b ∷ ys) in
      let lw : length (h ++ b ∷ ys) ≡ length h + suc (length ys) = length-append h (b ∷ ys) in
      let lv : length ((settle judge h).rest ++ b ∷ ys) ≡ length r + suc (length ys) = length-append r (b ∷ ys) in
      let lr : length r ≡ length h - length ps = ap length sr.is ∙ length-drop (length ps) h in
      let n : length h ≡ length ps + length r = omega (arith, sr.few) in
      let t : length w ≡ length ps + length v = omega arith in
      let dv : (settle judge h).rest ++ b ∷ ys ≡ drop (length ps) (h ++ b ∷ ys) =
      ap (λ (x : List ℕ). x ++ b ∷ ys) sr.is ∙ sym (drop-append-le (length ps) h (b ∷ ys) sr.few) in
      let a : settle judge (h ++ b ∷ ys) ≡ before ps s =
      settle_after judge laws (b ∷ ys) h ∙ ap (λ (o : Option ℕ). after judge laws (b ∷ ys) o ps r) e in
      let nx : next ≡ to_lit s v (suc (length r)) =
      rec ∙ ap₂ (λ (x : List ℕ) (i : ℕ). to_lit (settle judge x) x i) (append_snoc r b ys) (omega (arith, length-append r (b ∷ []))) in
      let T : ℕ = reach s.standing s.passed (suc (length r)) (length v) in
      let far : reach s.standing (ps ++ s.passed) (length h) (length w) ≡ length ps + reach s.standing s.passed (suc (length r)) (length v) =
      ap (reach s.standing (ps ++ s.passed) (length h)) t
      ∙ further s.standing ps s.passed (length h) (length r) (length v) n (marks_low judge laws.fits h 0 (length h) (omega arith))
      (needs v (length r) (λ d. laws.soon r (b ∷ ys) (undecided h e) d)) in
      let some_more : suc (length r) ≤ T = least s.standing s.passed (suc (length r)) (length v) (omega arith) in
      ap (go_on (settle judge h)) nx
      ∙ same (suc (T - suc (length r))) (reach s.standing (ps ++ s.passed) (length h) (length w) - length h) (ps ++ s.passed) s.standing _ _ (omega arith)
      (ap (λ (x : List ℕ). drop (length s.passed) (take T x)) dv
      ∙ ap (drop (length s.passed)) (take_drop T (length ps) w (omega arith))
      ∙ drop-drop (length s.passed) (length ps) (take (length ps + T) w)
      ∙ ap₂ (λ (i j : ℕ). drop i (take j w)) (sym (length-append ps s.passed)) (sym far))
      ∙ ap (λ (k : Settled). to_lit k (h ++ b ∷ ys) (length h)) (sym a)

  by_option : (o : Option ℕ) (h : List ℕ) (b : ℕ) (ys : List ℕ) (next : Intake) → (settle judge h).standing ≡ o
      → next ≡ to_lit (settle judge ((settle judge h).rest ++ b ∷ [] ++ ys)) ((settle judge h).rest ++ b ∷ [] ++ ys) (length ((settle judge h).rest ++ b ∷ []))
      → unless_block o (settle judge h) next ≡ to_lit (settle judge (h ++ b ∷ ys)) (h ++ b ∷ ys) (length h)
  by_option (Some l) h b ys next e rec = by_block h (b ∷ ys) l e
  by_option None h b ys next e rec = by_more h b ys next e rec

  pub literal : (piece : List ℕ) (room : ℕ) (h : List ℕ)
      → feed_by judge h piece room ≡ to_lit (settle judge (h ++ take room piece)) (h ++ take room piece) (length h)
  unfolding feed_by
  literal [] room h = at_end h (take room []) (take-nil room)
  literal (b ∷ bs) zero h = at_end h [] refl
  literal (b ∷ bs) (suc room) h =
      by_option (settle judge h).standing h b (take room bs) (feed_by judge ((settle judge h).rest ++ b ∷ []) bs room) refl
      (literal bs room ((settle judge h).rest ++ b ∷ []))
