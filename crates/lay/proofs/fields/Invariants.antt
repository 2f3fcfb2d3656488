-- `lay::fields` meets its contract. The invariant: what is left of rows and values gives the whole.
-- Assumes nothing.
use mathlib.Core.Path.{◌≡◌}
use Prim.Native.Nat.{◌+◌, ◌≤◌}
use lib.ListN.{length, drop}
use lib.Seq.{sets}
use Rattle.table.specs.Shape.{fields_of}
use Rattle.draft.specs.Draft.{last_end}
use Rattle.draft.specs.Code.{values_from, subs_from}
use Rattle.lay.specs.Fields.{laid}
use Rattle.lay.proofs.Laying.{Laying}
use Rattle.lay.proofs.fields.Given as goal

abbrev pub invariant-loop-row : goal.invariant-loop-row
invariant-loop-row l =
    (l.p ≤ l.next) × (l.next ≤ length l.kinds) × (subs_from l.kinds l.bits l.next ≡ subs_from l.kinds l.bits l.p)
    × Laying l.revision l.base l.end (fields_of (drop l.row-index l.rows)) (values_from l.kinds l.bits l.next) l.out
    (sets l.initial.out (l.base + l.from) (laid l.revision l.from (fields_of l.rows) (values_from l.kinds l.bits l.p)))
    (last_end l.revision l.from (fields_of l.rows))
