-- `scan::last` meets its contract. The invariant: the places behind those passed give, with these, what the whole gives.
-- Assumes nothing.
use mathlib.Core.Path.{◌≡◌}
use Prim.Native.Nat.{◌≤◌, ◌-◌}
use lib.ListN.{length}
use Rattle.scan.specs.Passed.{nothing_passed}
use Rattle.scan.proofs.Places.{from_end}
use Rattle.scan.proofs.last.Given as goal

abbrev pub invariant-loop-passed : goal.invariant-loop-passed
invariant-loop-passed l = (l.passed.skipped ≤ length l.held) × (from_end l.ceiling l.held l.passed.skipped l.passed ≡ from_end l.ceiling l.held 0 nothing_passed)

abbrev pub decreases-loop-passed : goal.decreases-loop-passed
decreases-loop-passed l = length l.held - l.passed.skipped
