-- Two parts settled in a row, in numbers, are the whole; and the whole is what feeding a byte at a time gives.
-- Assumes nothing.
use mathlib.Core.Path.{◌≡◌, refl, sym, ap, ap₂, ◌∙◌}
use mathlib.Core.List.{List, [], ◌∷◌, ◌++◌, append-nil}
use Rattle.std.proofs.Common.{Option, None, Some}
use Prim.Native.Nat.{ℕ, max, ◌+◌, ◌-◌, ◌≤◌}
use native.Mathlib.Omega.{arith}
use lib.ListN.{length, length-append}
use lib.Seq.{take_all}
use Rattle.scan.specs.Settle.{Settled, settle}
use Rattle.scan.specs.Feed.{feed_by, size}
use Rattle.scan.specs.Passed.{nothing_passed, count_all, passed_of, scanned_of}
use Rattle.scan.specs.Scan.{with_rest, needed, stretch_by, stretch_of}
use Rattle.frame.specs.declared.Reason.{Reason}
use Rattle.frame.specs.declared.Verdict.{Verdict}
use Rattle.scan.specs.declared.Passed.{Passed}
use Rattle.scan.specs.declared.Scanned.{Scanned}
use Rattle.scan.specs.declared.Stretch.{Stretch}
use Rattle.scan.specs.declared.Stretch.TheVariants.{Block, Waits, Through}
use Rattle.scan.proofs.Judging.{Judging}
use Rattle.scan.proofs.Settling.{joined, settle_rest, settle_joined}
use Rattle.scan.proofs.Marks.{count_all_append, count_all_skipped, passed_of_skipped, marks_max, marks_append}
use Rattle.scan.proofs.Literal.{reach, to_lit, literal}

-- ---- a part, and then the rest

module _ (judge : List ℕ → Verdict) (rest : List ℕ) where
  abbrev pub then_part : Stretch → Stretch
  then_part (Block a n m) = Block a n m
  then_part (Waits a) = Waits a
  then_part (Through a m) = stretch_of (settle judge rest) a m

  then_by : (o : Option ℕ) (rs : List Reason) (v : List ℕ) (a : Passed) (m : ℕ)
      → stretch_of (joined judge rest o rs v) a m ≡ then_part (stretch_by o v (count_all a rs) (needed a.skipped m rs))
  then_by (Some n) rs v a m = refl
  then_by None rs (b ∷ bs) a m = refl
  then_by None rs [] a m =
      let s = settle judge rest in
      ap₂ (λ (x : Passed) (y : ℕ). stretch_by s.standing s.rest x y) (count_all_append a rs s.passed)
      (marks_append rs s.passed a.skipped m ∙ ap (λ (i : ℕ). needed i (needed a.skipped m rs) s.passed) (sym (count_all_skipped a rs)))

  pub part_then : (s : List ℕ) (a : Passed) (m : ℕ) → stretch_of (settle judge (s ++ rest)) a m ≡ then_part (stretch_of (settle (with_rest judge rest) s) a m)
  part_then s a m =
      let p = settle (with_rest judge rest) s in
      ap (λ (x : Settled). stretch_of x a m) (settle_joined judge rest s) ∙ then_by p.standing p.passed p.rest a m

  -- where not all is passed, nothing more is read
  pub stays : (x : Stretch) → ((a : Passed) (m : ℕ) → x ≡ Through a m → ⊥) → then_part x ≡ x
  stays (Block a n m) h = refl
  stays (Waits a) h = refl
  stays (Through a m) h = absurd (h a m refl)

no_more : (judge : List ℕ → Verdict) (x : Stretch) → then_part judge [] x ≡ x
unfolding settle count_all needed
no_more judge (Block a n m) = refl
no_more judge (Waits a) = refl
no_more judge (Through a m) = refl

-- the last part
pub last_part : (judge : List ℕ → Verdict) (s : List ℕ) (a : Passed) (m : ℕ) → stretch_of (settle judge s) a m ≡ stretch_of (settle (with_rest judge []) s) a m
last_part judge s a m =
    ap (λ (v : List ℕ). stretch_of (settle judge v) a m) (sym (append-nil s)) ∙ part_then judge [] s a m
    ∙ no_more judge (stretch_of (settle (with_rest judge []) s) a m)

-- ---- what is passed is there, and marks do not fall

abbrev pub Kept : ℕ → ℕ → Stretch → Type 0
Kept most m (Block a n t) = m ≤ t
Kept most m (Waits a) = Unit {0}
Kept most m (Through a t) = (a.skipped ≤ most) × (m ≤ t)

kept_by : (o : Option ℕ) (rs : List Reason) (v : List ℕ) (a : Passed) (m most : ℕ) → a.skipped + length rs ≤ most
    → Kept most m (stretch_by o v (count_all a rs) (needed a.skipped m rs))
kept_by (Some n) rs v a m most l = omega (arith, marks_max rs a.skipped m)
kept_by None rs (b ∷ bs) a m most l = tt
kept_by None rs [] a m most l = (omega (arith, count_all_skipped a rs), omega (arith, marks_max rs a.skipped m))

pub kept : (judge : List ℕ → Verdict) (s : List ℕ) (a : Passed) (m : ℕ) → Kept (a.skipped + length s) m (stretch_of (settle judge s) a m)
kept judge s a m =
    let p = settle judge s in
    kept_by p.standing p.passed p.rest a m (a.skipped + length s) (omega (arith, (settle_rest judge s).few))

-- ---- the whole

-- of n bytes held and a piece of t
abbrev pub scanned_by : Stretch → ℕ → ℕ → Scanned
scanned_by (Block a l m) n t = record { taken = m - n; passed = a; block = l }
scanned_by (Waits a) n t = record { taken = t; passed = a; block = 0 }
scanned_by (Through a m) n t = record { taken = t; passed = a; block = 0 }

found_by_lem : (o : Option ℕ) (rs : List Reason) (v : List ℕ) (w n t : ℕ) → w ≡ n + t
    → ◌≡◌ {A = Scanned} (record { taken = reach o rs n w - n; passed = passed_of rs; block = size o }) (scanned_by (stretch_by o v (passed_of rs) (needed 0 n rs)) n t)
found_by_lem (Some l) rs v w n t e =
    ap (λ (i : ℕ). record { taken = max (needed 0 n rs) (i + l) - n; passed = passed_of rs; block = l }) (sym (passed_of_skipped rs))
found_by_lem None rs (b ∷ bs) w n t e = let f : w - n ≡ t = omega arith in ap (λ (i : ℕ). record { taken = i; passed = passed_of rs; block = 0 }) f
found_by_lem None rs [] w n t e = let f : w - n ≡ t = omega arith in ap (λ (i : ℕ). record { taken = i; passed = passed_of rs; block = 0 }) f

pub found : (judge : List ℕ → Verdict) → Judging judge → (h piece : List ℕ)
    → scanned_of (feed_by judge h piece (length piece)) ≡ scanned_by (stretch_of (settle judge (h ++ piece)) nothing_passed (length h)) (length h) (length piece)
found judge laws h piece =
    let s = settle judge (h ++ piece) in
    ap scanned_of
    (literal judge laws piece (length piece) h
    ∙ ap (λ (x : List ℕ). to_lit (settle judge (h ++ x)) (h ++ x) (length h)) (take_all (length piece) piece (omega arith)))
    ∙ found_by_lem s.standing s.passed s.rest (length (h ++ piece)) (length h) (length piece) (length-append h piece)
