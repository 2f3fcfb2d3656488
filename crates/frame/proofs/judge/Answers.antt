-- `frame::judge` meets its contract: at each `return` the tests that led there say which case of `judged` holds.
-- Assumes nothing.
use mathlib.Core.Path.{◌≡◌, sym, ap, ap₂, ◌∙◌}
use mathlib.Core.Bool.{true}
use mathlib.Core.List.{List, ◌++◌}
use Prim.Native.Nat.{ℕ, ◌<◌, ◌+◌}
use native.Mathlib.Nat.{zero-add}
use native.Mathlib.Omega.{arith}
use lib.ListN.{length, take, drop, get_or, length-append}
use lib.Dec.{eqb}
use borrow.Author.Tests.{eq-eqb, ne_eqb}
use Rattle.crc.specs.Crc.{crc_of}
use Rattle.frame.specs.Frame.{length_at, allowed, crc_right}
use Rattle.frame.specs.declared.Reason.TheVariants.{CrcWrong}
use Rattle.frame.specs.declared.Verdict.TheVariants.{NoFrame, Frame}
use Rattle.frame.proofs.Cases.{empty, sync0, one, sync1, short, bad_length, part, good, bad}
use Rattle.frame.proofs.View.{Head, allows}
use Rattle.frame.proofs.judge.Goals as goal
use Rattle.frame.proofs.judge.Lts
use Rattle.frame.proofs.judge.Reads
use Rattle.frame.proofs.judge.Tie as tie

abbrev AfterSharedSliceKnown2 : Type 0
AfterSharedSliceKnown2 = Lts.After-shared_slice_known2 tie.the-claims Reads.Pre Reads.Post

abbrev Else1 : Type 0
Else1 = Lts.Else1 tie.the-claims Reads.Pre Reads.Post

abbrev Else2 : Type 0
Else2 = Lts.Else2 tie.the-claims Reads.Pre Reads.Post

abbrev Else3 : Type 0
Else3 = Lts.Else3 tie.the-claims Reads.Pre Reads.Post

abbrev Else4 : Type 0
Else4 = Lts.Else4 tie.the-claims Reads.Pre Reads.Post

abbrev AfterFrom : Type 0
AfterFrom = Lts.After-from tie.the-claims Reads.Pre Reads.Post

abbrev Else6 : Type 0
Else6 = Lts.Else6 tie.the-claims Reads.Pre Reads.Post

abbrev AfterPairAt2 : Type 0
AfterPairAt2 = Lts.After-pair_at2 tie.the-claims Reads.Pre Reads.Post

-- the run from the place on
abbrev run : AfterSharedSliceKnown2 → List ℕ
run b = b.before.before.args.a.now ++ b.before.before.args.b.now

-- the ceiling
abbrev top : AfterSharedSliceKnown2 → ℕ
top b = b.before.before.args.ceiling

long : (b : AfterSharedSliceKnown2) → length (run b) ≡ length b.args.a.now + length b.args.b.now
long b = length-append b.args.a.now b.args.b.now

some : (c : Else1) → 0 < length (run c.before)
some c = let n : length (run c.before) ≡ 0 → ⊥ = λ e. c.if-left-eq0.false (sym (long c.before) ∙ e) in omega (arith, n)

first : (c : Else2) → get_or (run c.before.before.before) 0 0 ≡ 0x24
first c = sym c.at.ensures ∙ c.if-at-ne36.false

two : (c : Else3) → 1 < length (run c.before.before.before.before)
two c =
    let n : length (run c.before.before.before.before) ≡ 1 → ⊥ = λ e. c.if-left-eq1.false (sym (long c.before.before.before.before) ∙ e) in
    omega (arith, n, some c.before.before.before)

second : (c : Else4) → get_or (run c.before.before.before.before.before.before) 1 0 ≡ 0x40
second c = sym c.at-2.ensures ∙ c.if-at-ne64.false

abbrev start : AfterFrom → AfterSharedSliceKnown2
start u = u.before.before.before.before.before.before.before.before.before

head : (u : AfterFrom) → Head (run (start u))
head u =
    record {
      eight = omega (arith, long (start u), u.if-left-lt8.false);
      first = first u.before.before.before.before.before.before;
      second = second u.before.before.before;
    }

ok : (c : Else6) → allowed (top (start c.before.before)) (length_at (run (start c.before.before)) 0) ≡ true
ok c =
    ap (allowed (top (start c.before.before))) (sym (c.from-n.ensures ∙ c.pair_at.ensures)) ∙ sym c.length_allowed.ensures ∙ c.if-not-length_allowed.false

-- the test of the CRC, as `crc_right` has it
sums : (c : AfterPairAt2)
    → crc_right (run (start c.before.before.before.before.before)) 0 ≡ eqb c.pair_at-2.result c.crc_between-crc.result
unfolding crc_right
sums c =
    ap₂ (λ (x y : ℕ). eqb x y) (sym c.pair_at-2.ensures)
    (ap (λ (x : ℕ). crc_of (drop 4 (take x (run (start c.before.before.before.before.before))))) (zero-add (length_at (run (start c.before.before.before.before.before)) 0) ∙ sym (c.from-n.ensures ∙ c.pair_at.ensures))
    ∙ sym c.crc_between-crc.ensures)

pub returns-then-left-eq0 : goal.returns-then-left-eq0
returns-then-left-eq0 c = sym (empty (top c.before.before) (run c.before.before) (omega (arith, long c.before.before, c.if-left-eq0.true)))

pub returns-then-at-ne36 : goal.returns-then-at-ne36
returns-then-at-ne36 c =
    sym (sync0 (top c.before.before.before.before) (run c.before.before.before.before) (some c.before.before.before) (λ e. c.if-at-ne36.true (c.at.ensures ∙ e)))

pub returns-then-left-eq1 : goal.returns-then-left-eq1
returns-then-left-eq1 c =
    sym (one (top c.before.before.before.before.before) (run c.before.before.before.before.before) (some c.before.before.before.before) (first c.before.before) (long c.before.before.before.before.before ∙ c.if-left-eq1.true))

pub returns-then-at-ne64 : goal.returns-then-at-ne64
returns-then-at-ne64 c =
    sym (sync1 (top c.before.before.before.before.before.before.before) (run c.before.before.before.before.before.before.before) (two c.before.before.before) (first c.before.before.before.before) (λ e. c.if-at-ne64.true (c.at-2.ensures ∙ e)))

pub returns-then-left-lt8 : goal.returns-then-left-lt8
returns-then-left-lt8 c =
    sym (short (top c.before.before.before.before.before.before.before.before) (run c.before.before.before.before.before.before.before.before) (two c.before.before.before.before) (first c.before.before.before.before.before) (second c.before.before) (omega (arith, long c.before.before.before.before.before.before.before.before, c.if-left-lt8.true)))

pub returns-then-not-length_allowed : goal.returns-then-not-length_allowed
returns-then-not-length_allowed c =
    let d = head c.before.before.before in
    sym
    (bad_length (top (start c.before.before.before)) (run (start c.before.before.before)) (omega (arith, d.eight)) d.first d.second d.eight
    (ap (allowed (top (start c.before.before.before))) (sym (c.from-n.ensures ∙ c.pair_at.ensures)) ∙ sym c.length_allowed.ensures ∙ c.if-not-length_allowed.true))

pub returns-then-left-n : goal.returns-then-left-n
returns-then-left-n c =
    let d = head c.before.before.before.before in
    sym
    (part (top (start c.before.before.before.before)) (run (start c.before.before.before.before)) (omega (arith, d.eight)) d.first d.second d.eight (ok c.before.before)
    (omega (arith, long (start c.before.before.before.before), c.if-left-n.true, c.from-n.ensures ∙ c.pair_at.ensures)))

pub crc_between-crc-requires : goal.crc_between-crc-requires
crc_between-crc-requires c =
    (omega (arith, (allows (top (start c.before.before.before.before)) (length_at (run (start c.before.before.before.before)) 0) (ok c.before.before)).not_small, c.from-n.ensures ∙ c.pair_at.ensures), omega (arith, c.if-left-n.false))

pub returns-then-pair_at-crc : goal.returns-then-pair_at-crc
returns-then-pair_at-crc c =
    let d = head c.before.before.before.before.before.before.before in
    sym
    (good (top (start c.before.before.before.before.before.before.before)) (run (start c.before.before.before.before.before.before.before)) (omega (arith, d.eight)) d.first d.second d.eight (ok c.before.before.before.before.before)
    (omega (arith, long (start c.before.before.before.before.before.before.before), c.if-left-n.false, c.from-n.ensures ∙ c.pair_at.ensures))
    (sums c.before.before ∙ eq-eqb c.pair_at-2.result c.crc_between-crc.result c.if-pair_at-crc.true)
    ∙ ap Frame (sym (c.from-n.ensures ∙ c.pair_at.ensures)))

pub returns-else-pair_at-crc : goal.returns-else-pair_at-crc
returns-else-pair_at-crc c =
    let d = head c.before.before.before.before.before.before.before in
    sym
    (bad (top (start c.before.before.before.before.before.before.before)) (run (start c.before.before.before.before.before.before.before)) (omega (arith, d.eight)) d.first d.second d.eight (ok c.before.before.before.before.before)
    (omega (arith, long (start c.before.before.before.before.before.before.before), c.if-left-n.false, c.from-n.ensures ∙ c.pair_at.ensures))
    (sums c.before.before ∙ ne_eqb c.pair_at-2.result c.crc_between-crc.result c.if-pair_at-crc.false)
    ∙ ap (λ (k : ℕ). NoFrame (CrcWrong k)) (sym (c.from-n.ensures ∙ c.pair_at.ensures)))
