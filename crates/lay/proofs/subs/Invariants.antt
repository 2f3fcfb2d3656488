-- `lay::subs` meets its contract. The invariant: what is left of the sub-blocks gives the whole.
-- Assumes nothing.
use mathlib.Core.List.{flat_map}
use mathlib.Core.Bool.{true}
use mathlib.Core.Path.{◌≡◌}
use Prim.Native.Nat.{◌-◌, ◌≤◌}
use lib.ListN.{length}
use lib.Seq.{sets}
use Rattle.table.specs.Lists.{every}
use Rattle.table.specs.Shape.{fields_of}
use Rattle.entry.specs.Bits.{list_ok}
use Rattle.draft.specs.Draft.{last_end}
use Rattle.draft.specs.Code.{Stops, subs_from}
use Rattle.lay.specs.Fields.{laid}
use Rattle.lay.proofs.Filling.{Filling}
use Rattle.lay.proofs.subs.Given as goal

abbrev pub invariant-loop-next : goal.invariant-loop-next
invariant-loop-next l =
    let fs = fields_of l.rows in
    let one = laid l.revision 0 fs in
    (l.next ≤ length l.kinds) × Stops l.kinds l.bits l.next
    × Filling one (last_end l.revision 0 fs) (subs_from l.kinds l.bits l.next) l.to l.out (sets l.initial.out l.base (flat_map one (subs_from l.kinds l.bits l.p)))
    × (every (list_ok l.revision fs) (subs_from l.kinds l.bits l.next) ≡ true)

abbrev pub decreases-loop-next : goal.decreases-loop-next
decreases-loop-next l = length l.kinds - l.next
