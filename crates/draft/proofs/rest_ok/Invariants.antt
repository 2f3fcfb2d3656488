-- `draft::rest_ok` meets its contract: what is left of the list gives the whole.
-- Assumes nothing.
use mathlib.Core.List.{List}
use Prim.Native.Nat.{ℕ}
use Rattle.draft.proofs.Values.{Passed}
use Rattle.draft.proofs.rest_ok.Given as goal

abbrev pub invariant-loop-i : goal.invariant-loop-i
invariant-loop-i l = (bits : List ℕ) → Passed l.kinds bits l.p l.i
