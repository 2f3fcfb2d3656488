-- `draft::list_ok` meets its contract. The invariant: the rows that are left, with the values that are left, give the whole.
-- Assumes nothing.
use Rattle.std.proofs.Common.{◌≡◌, ◌≤◌, length, drop}
use Rattle.table.specs.Shape.{fields_of}
use Rattle.entry.specs.Bits.{list_ok}
use Rattle.draft.specs.Code.{values_from, subs_from}
use Rattle.draft.proofs.list_ok.Given as goal

abbrev pub invariant-loop-field : goal.invariant-loop-field
invariant-loop-field l =
    (l.p ≤ l.next) × (l.next ≤ length l.kinds) × (subs_from l.kinds l.bits l.next ≡ subs_from l.kinds l.bits l.p)
    × (list_ok l.revision (fields_of l.fields) (values_from l.kinds l.bits l.p) ≡ list_ok l.revision (fields_of (drop l.field-index l.fields)) (values_from l.kinds l.bits l.next))
