-- `causes::count` meets its contract: no count by cause passes that of the places, which fits.
-- Assumes nothing.
use mathlib.Core.Path.{ap, subst⁻¹}
use Prim.Native.Nat.{◌+◌, ◌≤◌, ◌<◌}
use native.Mathlib.Omega.{arith}
use Rattle.causes.specs.Causes.{Cause, few, badlen, past, badcrc, passed_for}
use Rattle.causes.specs.declared.Passed.{Passed}
use Rattle.causes.proofs.Counting.{each_one, says_least}
use Rattle.causes.proofs.count.Goals as goal
use Rattle.causes.proofs.count.Lts
use Rattle.causes.proofs.count.Reads
use Rattle.causes.proofs.count.Tie as tie

abbrev AfterEach : Type 0
AfterEach = Lts.After-each tie.the-claims Reads.Pre Reads.Post

-- what a cause counts still fits
for : (k : Cause) (e : AfterEach) → passed_for k e.args.a + passed_for k e.each-one.result < 18446744073709551616
for k e =
    let q = e.requires in
    let o : passed_for k e.each-one.result ≤ 1 = subst⁻¹ (λ (x : Passed). passed_for k x ≤ 1) e.each-one.ensures (says_least k e.args.why) in
    omega (arith, q.0, q.1.cause k)

pub overflow_add-result : goal.overflow_add-result
overflow_add-result c =
    omega (arith, c.requires.0, ap (λ (x : Passed). x.skipped) c.each-one.ensures, each_one c.args.why)

pub overflow_add-result-2 : goal.overflow_add-result-2
overflow_add-result-2 c = omega (arith, for few c.before.before.before.before)

pub overflow_add-result-3 : goal.overflow_add-result-3
overflow_add-result-3 c = omega (arith, for badlen c.before.before.before.before.before.before)

pub overflow_add-result-4 : goal.overflow_add-result-4
overflow_add-result-4 c = omega (arith, for past c.before.before.before.before.before.before.before.before)

pub overflow_add-result-5 : goal.overflow_add-result-5
overflow_add-result-5 c = omega (arith, for badcrc c.before.before.before.before.before.before.before.before.before.before)

pub returns : goal.returns
returns c =
    let a = c.args.a in
    ap
    (λ (x : Passed). record {
      skipped = a.skipped + x.skipped;
      few = a.few + x.few;
      badlen = a.badlen + x.badlen;
      past = a.past + x.past;
      badcrc = a.badcrc + x.badcrc;
    })
    c.each-one.ensures
