-- `scan::scan_part` meets its contract. The invariant: the places from k on, with those passed and the present mark, give what the whole part gives.
-- Assumes nothing.
use borrow.Enum.Refused.{opened}
use mathlib.Core.Path.{◌≡◌, refl, sym, ap, ap₂, ◌∙◌, subst}
use mathlib.Core.List.{List, ◌++◌}
use Prim.Native.Nat.{ℕ, ◌≤◌, ◌<◌, ◌+◌, ◌-◌}
use native.Mathlib.Omega.{arith}
use lib.ListN.{length, drop, length-append, length-drop}
use lib.Seq.{take_all}
use Rattle.frame.specs.Judge.{judged}
use Rattle.scan.specs.Passed.{count}
use Rattle.frame.specs.declared.Reason.TheVariants.{NoSync, CrcWrong}
use Rattle.frame.specs.declared.Verdict.{Verdict}
use Rattle.frame.specs.declared.Verdict.TheVariants.{NoFrame}
use Rattle.scan.specs.declared.Passed.{Passed}
use Rattle.scan.specs.declared.Stretch.{Stretch}
use Rattle.scan.specs.declared.Stretch.TheVariants.{Block}
use Rattle.scan.proofs.Judging.{There, Fits}
use Rattle.scan.proofs.Stable.{judging}
use Rattle.scan.proofs.Marks.{count_all_same, no_mark}
use Rattle.scan.proofs.Places.{from_place, part_frame, part-waits, part_pass, part_end, skip_run}
use Rattle.scan.proofs.scan_part.Goals as goal
use Rattle.scan.proofs.scan_part.Lts
use Rattle.scan.proofs.scan_part.Reads
use Rattle.scan.proofs.scan_part.Tie as tie

abbrev AfterStartFrom : Type 0
AfterStartFrom = Lts.After-start_from tie.the-claims Reads.Pre Reads.Post goal.the-invariant-loop-k goal.the-decreases-loop-k

abbrev Start : Type 0
Start = Lts.Start tie.the-claims Reads.Pre Reads.Post goal.the-invariant-loop-k goal.the-decreases-loop-k

abbrev AfterCountNoSync : Type 0
AfterCountNoSync = Lts.After-count_no_sync tie.the-claims Reads.Pre Reads.Post goal.the-invariant-loop-k goal.the-decreases-loop-k

abbrev Else1 : Type 0
Else1 = Lts.Else1 tie.the-claims Reads.Pre Reads.Post goal.the-invariant-loop-k goal.the-decreases-loop-k

abbrev AfterJudge : Type 0
AfterJudge = Lts.After-judge tie.the-claims Reads.Pre Reads.Post goal.the-invariant-loop-k goal.the-decreases-loop-k

abbrev AfterCount : Type 0
AfterCount = Lts.After-count tie.the-claims Reads.Pre Reads.Post goal.the-invariant-loop-k goal.the-decreases-loop-k

abbrev AfterWhy : Type 0
AfterWhy = Lts.Past-After-known_told3 tie.the-claims Reads.Pre Reads.Post goal.the-invariant-loop-k goal.the-decreases-loop-k

pub loop-k-init : goal.loop-k-init
loop-k-init c = (omega arith, omega arith, refl)

pub overflow_sub-p : goal.overflow_sub-p
overflow_sub-p c = c.start_from-p.ensures.from

abbrev entry : AfterStartFrom → Start
entry f = f.before.before.before.before.before

bound : (f : AfterStartFrom) → (entry f).args.before.skipped + length (entry f).args.s.now + length (entry f).args.rest.now < 18446744073709551616
bound f = (entry f).requires

pub count_no_sync-passed-requires : goal.count_no_sync-passed-requires
count_no_sync-passed-requires c =
    omega (arith, bound c.before, c.start_from-p.ensures.from, c.start_from-p.ensures.within, c.loop-k.invariant.1)

-- those passed with the places up to the next start
abbrev past : AfterCountNoSync → Passed
past n = n.count_no_sync-passed.result

placed : (n : AfterCountNoSync) → (past n).skipped ≡ (entry n.before).args.before.skipped + n.start_from-p.result
placed n =
    let l = n.loop-k in
    let e : (past n).skipped ≡ l.passed.skipped + (n.start_from-p.result - l.k) =
    ap (λ (x : Passed). x.skipped) (n.count_no_sync-passed.ensures ∙ count_all_same (n.start_from-p.result - l.k) l.passed NoSync) in
    omega (arith, e, l.invariant.1, n.start_from-p.ensures.from)

-- what the whole part gives
abbrev whole : AfterStartFrom → Stretch
whole f = let a = (entry f).args in from_place a.ceiling a.s.now a.rest.now 0 a.before a.mark

-- the places from k on
abbrev from_here : AfterStartFrom → ℕ → Passed → ℕ → Stretch
from_here f = let a = (entry f).args in from_place a.ceiling a.s.now a.rest.now

-- the places up to the next start are passed
there : (n : AfterCountNoSync)
    → from_here n.before n.start_from-p.result (past n) n.loop-k.m ≡ whole n.before
there n =
    let a = (entry n.before).args in
    let l = n.loop-k in
    ap (λ (x : Passed). from_here n.before n.start_from-p.result x l.m) n.count_no_sync-passed.ensures
    ∙ sym (skip_run a.ceiling a.s.now a.rest.now l.k n.start_from-p.result l.passed l.m n.start_from-p.ensures)
    ∙ l.invariant.2

inside : (c : Else1) → c.start_from-p.result < length (entry c.before.before).args.s.now
inside c = omega (arith, c.start_from-p.ensures.within, c.if-p-s.false)

abbrev counted : AfterJudge → AfterCountNoSync
counted j = j.before.before.before

abbrev begin : AfterJudge → AfterStartFrom
begin j = (counted j).before

abbrev place : AfterJudge → ℕ
place j = (begin j).start_from-p.result

-- the run from the place on
abbrev run : AfterJudge → List ℕ
run j = drop (place j) (entry (begin j)).args.s.now ++ (entry (begin j)).args.rest.now

-- the ceiling
abbrev top : AfterJudge → ℕ
top j = (entry (begin j)).args.ceiling

verdict : (j : AfterJudge) {x : Verdict} → j.judge.result ≡ x → judged (top j) (run j) ≡ x
verdict j e =
    let s = (entry (begin j)).args.s.now in
    sym
    (j.judge.ensures
    ∙ ap (λ (x : List ℕ). judged (top j) (x ++ (entry (begin j)).args.rest.now))
    (take_all (length s - place j) (drop (place j) s) (omega (arith, length-drop (place j) s))))
    ∙ e

-- what a verdict names is there
within : (j : AfterJudge) (n : ℕ) → There n (run j) → place j + n ≤ length (entry (begin j)).args.s.now + length (entry (begin j)).args.rest.now
within j n t =
    let s = (entry (begin j)).args.s.now in
    omega (arith, t.within, length-append (drop (place j) s) (entry (begin j)).args.rest.now, length-drop (place j) s, inside j.before.before)

fits : (j : AfterJudge) {x : Verdict} → j.judge.result ≡ x → Fits (run j) x
fits j e = subst (Fits (run j)) (verdict j e) ((judging (top j)).fits (run j))

-- the next place fits a number, and so does the block's end
place_fits : (j : AfterJudge) → (past (counted j)).skipped + 1 < 18446744073709551616
place_fits j = omega (arith, placed (counted j), inside j.before.before, bound (begin j))

end_fits : (j : AfterJudge) (n : ℕ) → There n (run j) → (past (counted j)).skipped + n < 18446744073709551616
end_fits j n t = omega (arith, placed (counted j), within j n t, bound (begin j))

pub returns-then-p-s : goal.returns-then-p-s
returns-then-p-s c =
    let a = (entry c.before.before.before).args in
    sym (part_end a.ceiling a.s.now a.rest.now c.start_from-p.result (past c.before.before) c.loop-k.m (omega (arith, c.if-p-s.true))) ∙ there c.before.before

pub slice_bounds-judge-count : goal.slice_bounds-judge-count
slice_bounds-judge-count c = omega (arith, inside c.before)

pub slice_bounds-judge-start : goal.slice_bounds-judge-start
slice_bounds-judge-start c = omega (arith, inside c.before)

pub slice_bounds-judge-end : goal.slice_bounds-judge-end
slice_bounds-judge-end c = omega (arith, inside c.before)

pub overflow_add-place : goal.overflow_add-place
overflow_add-place c = omega (arith, end_fits c.before.before c.in-Frame.n (fits c.before.before c.in-Frame.is))

pub returns-in-Frame : goal.returns-in-Frame
returns-in-Frame c =
    let a = (entry (begin c.before.before.before)).args in
    ap (Block (past (counted c.before.before.before)) c.in-Frame.n) c.max.ensures
    ∙ sym
    (part_frame a.ceiling a.s.now a.rest.now (place c.before.before.before) (past (counted c.before.before.before)) (begin c.before.before.before).before.before.loop-k.m c.in-Frame.n (inside c.before.before.before.before.before) (verdict c.before.before.before c.in-Frame.is))
    ∙ there (counted c.before.before.before)

pub returns-in-Undecided : goal.returns-in-Undecided
returns-in-Undecided c =
    let a = (entry (begin c.before.before)).args in
    sym
    (part-waits a.ceiling a.s.now a.rest.now (place c.before.before) (past (counted c.before.before)) (begin c.before.before).before.before.loop-k.m (inside c.before.before.before.before) (verdict c.before.before c.in-Undecided.is))
    ∙ there (counted c.before.before)

pub count-passed-requires : goal.count-passed-requires
count-passed-requires c = place_fits c.before.before

-- the place and its verdict, where one more is passed
abbrev at : AfterCount → AfterJudge
at q = q.before.before

one_more : (q : AfterCount) → q.count-passed.result.skipped ≡ (entry (begin (at q))).args.before.skipped + (place (at q) + 1)
one_more q =
    let n = counted (at q) in
    let e : q.count-passed.result.skipped ≡ (past n).skipped + 1 = ap (λ (x : Passed). x.skipped) q.count-passed.ensures in
    omega (arith, e, placed n)

-- no frame stands at the place, for this reason
reasoned : (w : AfterWhy) → judged (top (at w.before)) (run (at w.before)) ≡ NoFrame (CrcWrong w.in-CrcWrong.n)
reasoned w =
    verdict (at w.before) (w.in-NoFrame.is ∙ ap NoFrame w.in-CrcWrong.is)

pub overflow_add-place-in-CrcWrong : goal.overflow_add-place-in-CrcWrong
overflow_add-place-in-CrcWrong c =
    let j = at c.before.before in
    let t : There c.in-CrcWrong.n (run j) = subst (Fits (run j)) (reasoned c.before) ((judging (top j)).fits (run j)) in
    omega (arith, end_fits j c.in-CrcWrong.n t)

pub overflow_add-k : goal.overflow_add-k
overflow_add-k c = let j = at c.before.before.before in omega (arith, inside j.before.before, bound (begin j))

pub loop-k-smaller-in-CrcWrong : goal.loop-k-smaller-in-CrcWrong
loop-k-smaller-in-CrcWrong c =
    let j = at c.before.before.before in
    omega (arith, inside j.before.before, (begin j).start_from-p.ensures.from)

pub loop-k-preserved-in-CrcWrong : goal.loop-k-preserved-in-CrcWrong
loop-k-preserved-in-CrcWrong c =
    let j = at c.before.before.before in
    let a = (entry (begin j)).args in
    let m = (begin j).before.before.loop-k.m in
    let e : 1 + place j ≡ place j + 1 = omega arith in (
      omega (arith, inside j.before.before),
      omega (arith, one_more c.before.before.before),
      ap (λ (i : ℕ). from_here (begin j) i c.count-passed.result c.max-m.result) e
          ∙ ap₂ (from_here (begin j) (place j + 1)) (c.count-passed.ensures ∙ ap (count (past (counted j))) c.in-CrcWrong.is) c.max-m.ensures
          ∙ sym (part_pass a.ceiling a.s.now a.rest.now (place j) (past (counted j)) m (CrcWrong c.in-CrcWrong.n) (inside j.before.before) (reasoned c.before.before))
          ∙ there (counted j),
    )

pub overflow_add-k-in_default : goal.overflow_add-k-in_default
overflow_add-k-in_default c = let j = at c.before.before in omega (arith, inside j.before.before, bound (begin j))

pub loop-k-smaller : goal.loop-k-smaller
loop-k-smaller c =
    let j = at c.before.before in
    omega (arith, inside j.before.before, (begin j).start_from-p.ensures.from)

pub loop-k-preserved : goal.loop-k-preserved
loop-k-preserved c =
    let j = at c.before.before in
    let a = (entry (begin j)).args in
    let m = (begin j).before.before.loop-k.m in (
      omega (arith, inside j.before.before),
      one_more c.before.before,
      ap₂ (from_here (begin j) (place j + 1)) c.count-passed.ensures (sym (no_mark c.in-NoFrame.why (opened c.in_default.in_default-own.keys2) (past (counted j)).skipped m))
          ∙ sym (part_pass a.ceiling a.s.now a.rest.now (place j) (past (counted j)) m c.in-NoFrame.why (inside j.before.before) (verdict j c.in-NoFrame.is))
          ∙ there (counted j),
    )

pub returns : goal.returns
returns c =
    let a = c.args in
    let l = c.loop-k in
    sym (part_end a.ceiling a.s.now a.rest.now l.k l.passed l.m (omega arith)) ∙ l.invariant.2
