-- `draft::subs_ok` meets its contract: what is left of the sub-blocks gives the whole.
-- Assumes nothing.
use Prim.Native.Nat.{◌-◌}
use lib.ListN.{length}
use Rattle.table.specs.Shape.{fields_of}
use Rattle.entry.specs.Bits.{list_ok}
use Rattle.draft.proofs.Walks.{Begun}
use Rattle.draft.proofs.subs_ok.Given as goal

abbrev pub invariant-loop-next : goal.invariant-loop-next
invariant-loop-next l = Begun (list_ok l.revision (fields_of l.fields)) l.kinds l.bits l.p l.n l.next

abbrev pub decreases-loop-next : goal.decreases-loop-next
decreases-loop-next l = length l.kinds - l.next
