-- `draft::last_end` meets its contract. The invariant: none of the rows behind is carried, so those before give the whole.
-- Assumes nothing.
use Rattle.std.proofs.Common.{◌≡◌, take}
use Rattle.table.specs.Shape.{fields_of}
use Rattle.draft.specs.Draft.{last_end}
use Rattle.draft.proofs.last_end.Given as goal

abbrev pub invariant-loop-i : goal.invariant-loop-i
invariant-loop-i l = last_end l.revision l.from (fields_of l.fields) ≡ last_end l.revision l.from (fields_of (take l.i l.fields))
