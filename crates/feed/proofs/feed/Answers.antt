-- `feed::feed` meets its contract: the scan of what may be taken gives what feeding a byte at a time gives, and says what is kept.
-- Assumes nothing.
use mathlib.Core.Path.{◌≡◌, sym, ap, ◌∙◌}
use mathlib.Core.List.{List}
use Prim.Native.Nat.{ℕ, ◌-◌, ◌+◌, ◌≤◌, min}
use native.Mathlib.Omega.{arith}
use lib.ListN.{length}
use lib.Seq.{length-take-le}
use Rattle.scan.specs.Feed.{Intake, feed_lit}
use Rattle.scan.specs.Passed.{scanned_of}
use Rattle.feed.specs.Hold.{rest_of}
use Rattle.feed.proofs.Bounds.{fed_held}
use Rattle.feed.proofs.Literally.{roomed, rest_length, sum, few, whole, numbers_are, kept}
use Rattle.feed.proofs.feed.Goals as goal
use Rattle.feed.proofs.feed.Lts
use Rattle.feed.proofs.feed.Reads
use Rattle.feed.proofs.feed.Tie as tie

abbrev AfterScan : Type 0
AfterScan = Lts.After-scan tie.the-claims Reads.Pre Reads.Post tie.handed_clauses

abbrev Start : Type 0
Start = Lts.Start tie.the-claims Reads.Pre Reads.Post tie.handed_clauses

pub slice_bounds-scan-end-2 : goal.slice_bounds-scan-end-2
slice_bounds-scan-end-2 c =
    sym (length-take-le c.min-t.result c.args.piece.now (omega arith))

abbrev entry : AfterScan → Start
entry s = s.before.before.before.before.before

front : (s : AfterScan) → (entry s).args.standing ≤ (entry s).args.held
front s = (entry s).requires.1

fits : (s : AfterScan) → (entry s).args.held ≤ length (entry s).args.hold.now
fits s = omega (arith, (entry s).requires)

-- what is held without the standing block
abbrev rest : AfterScan → List ℕ
rest s = let a = (entry s).args in rest_of a.hold.now a.held a.standing

-- what the rule gives
abbrev fed : AfterScan → Intake
fed s = feed_lit (entry s).args.ceiling (rest s) (entry s).args.piece.now (entry s).args.room

came : (s : AfterScan) → s.scan-found.result ≡ scanned_of (fed s)
unfolding rest_of
came s =
    let a = (entry s).args in
    let l = s.min-t in
    s.scan-found.ensures ∙ ap scanned_of (roomed a.ceiling (rest s) a.piece.now a.room l.result l.ensures)

-- none is lost
adds : (s : AfterScan)
    → (entry s).args.held - (entry s).args.standing + s.scan-found.result.taken ≡ s.scan-found.result.passed.skipped + length (fed s).held
adds s = let a = (entry s).args in sum a.ceiling a.hold.now a.held a.standing a.piece.now a.room (front s) (fits s) s.scan-found.result (came s)

takes : (s : AfterScan) → s.scan-found.result.taken ≤ min (entry s).args.room (length (entry s).args.piece.now)
takes s = let a = (entry s).args in few a.ceiling a.hold.now a.held a.standing a.piece.now a.room (front s) (fits s) s.scan-found.result (came s)

held_few : (s : AfterScan) → length (fed s).held ≤ 65532
unfolding rest_of
held_few s =
    let a = (entry s).args in
    fed_held a.ceiling (entry s).requires.0 a.piece.now a.room (rest s)
    (omega (arith, rest_length a.hold.now a.held a.standing (front s) (fits s), (entry s).requires))

pub overflow_add-m : goal.overflow_add-m
overflow_add-m c = omega (arith, takes c.before.before)

pub keep-requires : goal.keep-requires
keep-requires c =
    let t = takes c.before.before.before in
    let l = adds c.before.before.before in
    let f = held_few c.before.before.before in
    omega (arith, t, l, f, (entry c.before.before.before).requires)

pub overflow_sub-result : goal.overflow_sub-result
overflow_sub-result c = omega (arith, adds c.before.before.before.before.before.before)

pub returns : goal.returns
returns c =
    let a = (entry c.before.before.before.before.before.before).args in
    let t = takes c.before.before.before.before.before.before in
    let l = adds c.before.before.before.before.before.before in
    let f = held_few c.before.before.before.before.before.before in
    let w = whole a.ceiling a.hold.now a.held a.standing a.piece.now a.room (front c.before.before.before.before.before.before) (fits c.before.before.before.before.before.before) c.scan-found.result (came c.before.before.before.before.before.before) in record { value = numbers_are a.ceiling a.hold.now a.held a.standing a.piece.now a.room (front c.before.before.before.before.before.before) (fits c.before.before.before.before.before.before) c.scan-found.result (came c.before.before.before.before.before.before); hold_after = kept a.ceiling a.hold.now a.held a.standing a.piece.now a.room (front c.before.before.before.before.before.before) (fits c.before.before.before.before.before.before) c.scan-found.result (came c.before.before.before.before.before.before) c.keep.ensures; good_numbers = record { front = omega (arith, l, w); few = omega (arith, l, f); taken = t } }
