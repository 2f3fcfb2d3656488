-- `walk::walk` meets its contract: what is left of the sub-blocks gives the whole.
-- Assumes nothing.
use Rattle.walk.proofs.Walks.{Walking}
use Rattle.walk.proofs.walk.Given as goal

abbrev pub invariant-loop-i : goal.invariant-loop-i
invariant-loop-i l = Walking l.n2 l.block l.k l.i l.at l.any l.nest
