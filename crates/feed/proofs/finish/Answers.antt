-- `feed::finish` meets its contract: the rule for the run's end, over the held bytes.
-- Assumes nothing.
use mathlib.Core.Path.{◌≡◌}
use Prim.Native.Nat.{◌-◌, ◌≤◌}
use native.Mathlib.Omega.{arith}
use lib.ListN.{length}
use Rattle.frame.specs.Judge.{judged_last}
use Rattle.scan.specs.Settle.{settle}
use Rattle.scan.specs.Feed.{stop}
use Rattle.scan.specs.Passed.{scanned_of}
use Rattle.feed.specs.Hold.{rest_of}
use Rattle.feed.proofs.Literally.{end_few, end_front, end_told, end_kept}
use Rattle.feed.proofs.finish.Goals as goal
use Rattle.feed.proofs.finish.Lts
use Rattle.feed.proofs.finish.Reads
use Rattle.feed.proofs.finish.Tie as tie

abbrev AfterLast : Type 0
AfterLast = Lts.After-last tie.the-claims Reads.Pre Reads.Post tie.handed_clauses

abbrev Start : Type 0
Start = Lts.Start tie.the-claims Reads.Pre Reads.Post tie.handed_clauses

abbrev entry : AfterLast → Start
entry s = s.before.before.before

front : (s : AfterLast) → (entry s).args.standing ≤ (entry s).args.held
front s = (entry s).requires.0

fits : (s : AfterLast) → (entry s).args.held ≤ length (entry s).args.hold.now
fits s = omega (arith, (entry s).requires)

came : (s : AfterLast) → s.last-found.result ≡ scanned_of (stop (settle (judged_last (entry s).args.ceiling) (rest_of (entry s).args.hold.now (entry s).args.held (entry s).args.standing)))
unfolding rest_of
came s = s.last-found.ensures

few : (s : AfterLast) → s.last-found.result.passed.skipped ≤ (entry s).args.held - (entry s).args.standing
few s = let a = (entry s).args in end_few a.ceiling a.hold.now a.held a.standing (front s) (fits s) s.last-found.result (came s)

pub overflow_sub-k-2 : goal.overflow_sub-k-2
overflow_sub-k-2 c = few c.before

pub overflow_add-standing : goal.overflow_add-standing
overflow_add-standing c = omega (arith, few c.before.before)

pub move_down-requires : goal.move_down-requires
move_down-requires c = omega (arith, few c.before.before)

pub returns : goal.returns
returns c =
    let a = (entry c.before.before.before.before.before.before).args in
    let f = few c.before.before.before.before.before.before in
    let g = end_front a.ceiling a.hold.now a.held a.standing (front c.before.before.before.before.before.before) (fits c.before.before.before.before.before.before) c.last-found.result (came c.before.before.before.before.before.before) in record { value = end_told a.ceiling a.hold.now a.held a.standing (front c.before.before.before.before.before.before) (fits c.before.before.before.before.before.before) c.last-found.result (came c.before.before.before.before.before.before); hold_after = end_kept a.ceiling a.hold.now a.held a.standing (front c.before.before.before.before.before.before) (fits c.before.before.before.before.before.before) c.last-found.result (came c.before.before.before.before.before.before) c.move_down.ensures; good_numbers = record { front = g; few = omega (arith, (entry c.before.before.before.before.before.before).requires); taken = omega arith } }
