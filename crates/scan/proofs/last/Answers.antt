-- `scan::last` meets its contract. The invariant: the places behind those passed give, with these, what the whole gives.
-- Assumes nothing.
use mathlib.Core.Path.{◌≡◌, refl, sym, ap, ◌∙◌}
use mathlib.Core.List.{List}
use Prim.Native.Nat.{ℕ, ◌+◌, ◌<◌, ◌-◌}
use native.Mathlib.Omega.{arith}
use lib.ListN.{length, drop, length-drop}
use lib.Seq.{take_all}
use Rattle.frame.specs.Judge.{judged_last}
use Rattle.scan.specs.Passed.{nothing_passed}
use Rattle.scan.specs.declared.Passed.{Passed}
use Rattle.frame.specs.declared.Reason.TheVariants.{NoSync}
use Rattle.frame.specs.declared.Verdict.{Verdict}
use Rattle.scan.proofs.Marks.{count_all_same}
use Rattle.scan.proofs.Stable.{last_decides}
use Rattle.scan.proofs.Places.{from_end, end_frame, end_pass, end_end, end_skip}
use Rattle.scan.proofs.last.Goals as goal
use Rattle.scan.proofs.last.Lts
use Rattle.scan.proofs.last.Reads
use Rattle.scan.proofs.last.Tie as tie

abbrev AfterStartFrom : Type 0
AfterStartFrom = Lts.After-start_from tie.the-claims Reads.Pre Reads.Post goal.the-invariant-loop-passed goal.the-decreases-loop-passed

abbrev AfterCountNoSync : Type 0
AfterCountNoSync = Lts.After-count_no_sync tie.the-claims Reads.Pre Reads.Post goal.the-invariant-loop-passed goal.the-decreases-loop-passed

abbrev Else2 : Type 0
Else2 = Lts.Else2 tie.the-claims Reads.Pre Reads.Post goal.the-invariant-loop-passed goal.the-decreases-loop-passed

abbrev AfterJudgeLast : Type 0
AfterJudgeLast = Lts.After-judge_last tie.the-claims Reads.Pre Reads.Post goal.the-invariant-loop-passed goal.the-decreases-loop-passed

abbrev AfterCount : Type 0
AfterCount = Lts.After-count tie.the-claims Reads.Pre Reads.Post goal.the-invariant-loop-passed goal.the-decreases-loop-passed

pub loop-passed-init : goal.loop-passed-init
loop-passed-init c = (omega arith, refl)

pub start_from-p-requires : goal.start_from-p-requires
start_from-p-requires c = c.loop-passed.invariant.0

pub overflow_sub-p : goal.overflow_sub-p
overflow_sub-p c = c.start_from-p.ensures.from

-- the held bytes
abbrev bytes : AfterStartFrom → List ℕ
bytes f = f.args.held.now

abbrev top_at : AfterStartFrom → ℕ
top_at f = f.args.ceiling

pub count_no_sync-passed-requires : goal.count_no_sync-passed-requires
count_no_sync-passed-requires c = omega (arith, c.start_from-p.ensures.from, c.start_from-p.ensures.within)

-- those passed with the places up to the next start
abbrev past : AfterCountNoSync → Passed
past n = n.count_no_sync-passed.result

placed : (n : AfterCountNoSync) → (past n).skipped ≡ n.start_from-p.result
placed n =
    let a = n.loop-passed.passed in
    let e : (past n).skipped ≡ a.skipped + (n.start_from-p.result - a.skipped) =
    ap (λ (x : Passed). x.skipped) (n.count_no_sync-passed.ensures ∙ count_all_same (n.start_from-p.result - a.skipped) a NoSync) in
    omega (arith, e, n.start_from-p.ensures.from)

there : (n : AfterCountNoSync)
    → from_end (top_at n.before) (bytes n.before) n.start_from-p.result (past n) ≡ from_end (top_at n.before) (bytes n.before) 0 nothing_passed
there n =
    let l = n.loop-passed in
    ap (from_end (top_at n.before) (bytes n.before) n.start_from-p.result) n.count_no_sync-passed.ensures
    ∙ sym (end_skip (top_at n.before) (bytes n.before) l.passed.skipped n.start_from-p.result l.passed n.start_from-p.ensures)
    ∙ l.invariant.1

inside : (c : Else2) → c.start_from-p.result < length (bytes c.before.before)
inside c = omega (arith, c.start_from-p.ensures.within, c.if-p-held.false)

abbrev begin : AfterJudgeLast → AfterCountNoSync
begin j = j.before.before.before

abbrev run : AfterJudgeLast → List ℕ
run j = bytes (begin j).before

abbrev place : AfterJudgeLast → ℕ
place j = (begin j).before.start_from-p.result

abbrev top : AfterJudgeLast → ℕ
top j = top_at (begin j).before

verdict : (j : AfterJudgeLast) {x : Verdict} → j.judge_last.result ≡ x → judged_last (top j) (drop (place j) (run j)) ≡ x
verdict j e =
    sym
    (j.judge_last.ensures
    ∙ ap (judged_last (top j)) (take_all (length (run j) - place j) (drop (place j) (run j)) (omega (arith, length-drop (place j) (run j)))))
    ∙ e

pub returns-then-p-held : goal.returns-then-p-held
returns-then-p-held c =
    c.last_found.ensures
    ∙ sym (end_end (top_at c.before.before.before.before) (bytes c.before.before.before.before) c.start_from-p.result (past c.before.before.before) (omega (arith, c.if-p-held.true)))
    ∙ there c.before.before.before

pub slice_bounds-judge_last-count : goal.slice_bounds-judge_last-count
slice_bounds-judge_last-count c = omega (arith, inside c.before)

pub slice_bounds-judge_last-start : goal.slice_bounds-judge_last-start
slice_bounds-judge_last-start c = omega (arith, inside c.before)

pub slice_bounds-judge_last-end : goal.slice_bounds-judge_last-end
slice_bounds-judge_last-end c = omega (arith, inside c.before)

pub returns-in-Frame : goal.returns-in-Frame
returns-in-Frame c =
    c.last_found-in-Frame.ensures
    ∙ sym (end_frame (top c.before.before.before) (run c.before.before.before) (place c.before.before.before) (past (begin c.before.before.before)) c.in-Frame.n (inside c.before.before.before.before.before) (verdict c.before.before.before c.in-Frame.is))
    ∙ there (begin c.before.before.before)

pub count-passed-requires : goal.count-passed-requires
count-passed-requires c = omega (arith, placed (begin c.before.before), inside c.before.before.before.before)

-- one more is passed
one_more : (c : AfterCount) → c.count-passed.result.skipped ≡ place c.before.before + 1
one_more c =
    let n = begin c.before.before in
    let e : c.count-passed.result.skipped ≡ (past n).skipped + 1 = ap (λ (x : Passed). x.skipped) c.count-passed.ensures in
    omega (arith, e, placed n)

pub loop-passed-smaller : goal.loop-passed-smaller
loop-passed-smaller c =
    omega (arith, one_more c.before, inside c.before.before.before.before.before, (begin c.before.before.before).before.start_from-p.ensures.from)

pub loop-passed-preserved : goal.loop-passed-preserved
loop-passed-preserved c = (
  omega (arith, one_more c.before, inside c.before.before.before.before.before),
  ap (λ (i : ℕ). from_end (top c.before.before.before) (run c.before.before.before) i c.count-passed.result) (one_more c.before)
      ∙ ap (from_end (top c.before.before.before) (run c.before.before.before) (place c.before.before.before + 1)) c.count-passed.ensures
      ∙ sym (end_pass (top c.before.before.before) (run c.before.before.before) (place c.before.before.before) (past (begin c.before.before.before)) c.in-NoFrame.why (inside c.before.before.before.before.before) (verdict c.before.before.before c.in-NoFrame.is))
      ∙ there (begin c.before.before.before),
)

pub returns-in-Undecided : goal.returns-in-Undecided
returns-in-Undecided c =
    absurd (last_decides (top c.before.before.before) (drop (place c.before.before.before) (run c.before.before.before)) (verdict c.before.before.before c.in-Undecided.is))

pub returns : goal.returns
returns c =
    let w = c.args in
    let l = c.loop-passed in
    c.last_found-2.ensures ∙ sym (end_end w.ceiling w.held.now l.passed.skipped l.passed (omega (arith, c.before.before))) ∙ l.invariant.1
