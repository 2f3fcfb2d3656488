-- `feed::move_down` meets its contract. The invariant: j bytes have moved, and the rest stands as it stood.
-- Assumes nothing.
use mathlib.Core.Path.{◌≡◌}
use Prim.Native.Nat.{◌≤◌, ◌-◌}
use lib.ListN.{drop}
use lib.Seq.{paste}
use Rattle.feed.proofs.move_down.Given as goal

abbrev pub invariant-loop-moved : goal.invariant-loop-moved
invariant-loop-moved l = (l.moved ≤ l.k) × (l.hold ≡ paste l.initial.hold 0 (drop l.from l.initial.hold) l.moved)

abbrev pub decreases-loop-moved : goal.decreases-loop-moved
decreases-loop-moved l = l.k - l.moved
