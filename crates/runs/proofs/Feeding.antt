-- What feed and finish leave, from numbers to meaning: the block that stands, its report, and bounds of the counts.
-- Assumes nothing.
use mathlib.Core.Path.{◌≡◌, refl, sym, ap, ap₂, ◌∙◌, subst}
use mathlib.Core.List.{List, ◌++◌}
use Rattle.std.proofs.Common.{Option, None, Some}
use Prim.Native.Nat.{ℕ, zero, suc, ◌+◌, ◌≤◌}
use native.Mathlib.Omega.{arith}
use lib.ListN.{length, take, get_or-append}
use lib.Seq.{get_or-take}
use Rattle.wire.specs.Little.{little_at}
use Rattle.wire.proofs.Laws.{agree}
use Rattle.frame.specs.Frame.{id_at, number_of, revision_of}
use Rattle.frame.specs.Judge.{judged, judged_last}
use Rattle.frame.specs.declared.Verdict.{Verdict}
use Rattle.scan.specs.Settle.{settle}
use Rattle.scan.specs.Feed.{Intake, feed_lit, stop, size}
use Rattle.scan.proofs.Judging.{There, Fits}
use Rattle.scan.proofs.Stable.{judging, last_fits}
use Rattle.scan.proofs.Settling.{Stopped, settle_stopped}
use Rattle.scan.proofs.Marks.{passed_of_skipped}
use Rattle.scan.proofs.Calls.{call, fed_stopped, settle_sum}
use Rattle.feed.specs.Hold.{numbers_of}
use Rattle.feed.specs.declared.HoldNumbers.{HoldNumbers}
use Rattle.reader.specs.Counting.{one}
use Rattle.reader.specs.Code.{one_by, run_by, report_at, standing_by, phase_by}
use Rattle.reader.specs.declared.Phase.{Phase}
use Rattle.reader.specs.declared.Run.{Run}
use Rattle.runs.specs.Calls.{reported, report_if, run_on, phase_after}

-- ---- a standing block is there whole

pub record Whole (n : ℕ) (v : List ℕ) : Type 0 where
  pub eight : 8 ≤ n
  pub there : n ≤ length v

abbrev pub WholeIf : Option ℕ → List ℕ → Type 0
WholeIf None v = Unit {0}
WholeIf (Some n) v = Whole n v

whole_by : (judge : List ℕ → Verdict) → ((v : List ℕ) → Fits v (judge v)) → (o : Option ℕ) (v : List ℕ) → Stopped judge o v → WholeIf o v
whole_by judge fits None v e = tt
whole_by judge fits (Some n) v e =
    let t : There n v = subst (Fits v) e (fits v) in record { eight = t.eight; there = t.within }

pub fed_whole : (c : ℕ) (h piece : List ℕ) (room : ℕ) → WholeIf (feed_lit c h piece room).standing (feed_lit c h piece room).held
fed_whole c h piece room =
    whole_by (judged c) (judging c).fits (feed_lit c h piece room).standing (feed_lit c h piece room).held (fed_stopped (judged c) piece room h)

pub end_whole : (c : ℕ) (h : List ℕ) → WholeIf (settle (judged_last c) h).standing (settle (judged_last c) h).rest
end_whole c h = whole_by (judged_last c) (last_fits c) (settle (judged_last c) h).standing (settle (judged_last c) h).rest (settle_stopped (judged_last c) h)

pub phase_is : (o : Option ℕ) (v : List ℕ) → WholeIf o v → phase_by (size o) ≡ phase_after o
phase_is None v w = refl
phase_is (Some zero) v w = absurd (omega (arith, w.eight))
phase_is (Some (suc n)) v w = refl

-- ---- the run goes on

one_is : (o : Option ℕ) (v : List ℕ) → WholeIf o v → one_by (size o) ≡ one o
one_is None v w = refl
one_is (Some zero) v w = absurd (omega (arith, w.eight))
one_is (Some (suc n)) v w = refl

-- by the numbers that are given back as by what a call did
pub run_on_lem : (x : Phase) (r : Run) (f : Intake) → WholeIf f.standing f.held → run_by x r (numbers_of f) ≡ run_on x r f
run_on_lem x r f w =
    ap₂
    (λ (b s : ℕ).
    record {
      phase = x;
      held = length f.held;
      standing = size f.standing;
      counts = record { taken = r.counts.taken + f.taken; blocks = r.counts.blocks + b; skipped = r.counts.skipped + s };
      settings = r.settings;
    })
    (one_is f.standing f.held w) (passed_of_skipped f.passed)

-- ---- the report

id_is : (v l : List ℕ) (n : ℕ) → Whole n v → little_at 2 (v ++ l) 4 ≡ id_at (take n v) 0
id_is v l n w =
    agree 2 (v ++ l) (take n v) 4 4
    (λ d h. get_or-append v l 0 (4 + d) (omega (arith, w.eight, w.there)) ∙ sym (get_or-take n v (4 + d) 0 (omega (arith, w.eight))))

pub report_is : (v l : List ℕ) (p n : ℕ) → Whole n v → report_at (v ++ l) p n ≡ reported p n v
report_is v l p n w = ap (λ (i : ℕ). record { place = p; number = number_of i; revision = revision_of i; size = n }) (id_is v l n w)

pub standing_is : (o : Option ℕ) (v l : List ℕ) (p : ℕ) → WholeIf o v → standing_by (size o) (v ++ l) p ≡ report_if o p v
standing_is None v l p w = refl
standing_is (Some zero) v l p w = absurd (omega (arith, w.eight))
standing_is (Some (suc n)) v l p w = ap Some (report_is v l p (suc n) w)

-- ---- numbers

-- nothing is lost, so neither count passes what was there and what came
pub record Few (n : ℕ) (f : HoldNumbers) : Type 0 where
  pub held : f.held ≤ n + f.taken
  pub skipped : f.passed.skipped ≤ n + f.taken

few_by : (n : ℕ) (F : Intake) (f : HoldNumbers) → n + F.taken ≡ length F.passed + length F.held → f ≡ numbers_of F → Few n f
few_by n F f k e =
    let a = ap (λ (x : HoldNumbers). x.taken) e in
    let b = ap (λ (x : HoldNumbers). x.held) e in
    let c = ap (λ (x : HoldNumbers). x.passed.skipped) e ∙ passed_of_skipped F.passed in
    record { held = omega arith; skipped = omega arith }

pub fed_few : (c : ℕ) (h piece : List ℕ) (room : ℕ) (f : HoldNumbers) → f ≡ numbers_of (feed_lit c h piece room) → Few (length h) f
fed_few c h piece room f e = few_by (length h) (feed_lit c h piece room) f (call (judged c) (judging c).fits h piece room).sum e

pub end_few : (c : ℕ) (h : List ℕ) (f : HoldNumbers) → f ≡ numbers_of (stop (settle (judged_last c) h)) → Few (length h) f
end_few c h f e = few_by (length h) (stop (settle (judged_last c) h)) f (settle_sum (judged_last c) h) e
