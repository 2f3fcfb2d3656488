-- `scan::scan_part` meets its contract. The invariant: the places from k on, with those passed and the present mark, give what the whole part gives.
-- Assumes nothing.
use mathlib.Core.Path.{◌≡◌}
use Prim.Native.Nat.{◌≤◌, ◌+◌, ◌-◌}
use lib.ListN.{length}
use Rattle.scan.proofs.Places.{from_place}
use Rattle.scan.proofs.scan_part.Given as goal

abbrev pub invariant-loop-k : goal.invariant-loop-k
invariant-loop-k l =
    (l.k ≤ length l.s) × (l.passed.skipped ≡ l.initial.passed.skipped + l.k) × (from_place l.ceiling l.s l.rest l.k l.passed l.m ≡ from_place l.ceiling l.s l.rest 0 l.initial.passed l.mark)

abbrev pub decreases-loop-k : goal.decreases-loop-k
decreases-loop-k l = length l.s - l.k
