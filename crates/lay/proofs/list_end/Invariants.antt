-- `lay::list_end` meets its contract. The invariant: no sub-block has begun since p.
-- Assumes nothing.
use Rattle.lay.proofs.Ending.{Passing}
use Rattle.lay.proofs.list_end.Given as goal

abbrev pub invariant-loop-i : goal.invariant-loop-i
invariant-loop-i l = Passing l.kinds l.p l.i
