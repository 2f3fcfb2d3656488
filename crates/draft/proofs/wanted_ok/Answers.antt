-- `draft::wanted_ok` meets its contract: by whether the field is carried.
-- Assumes nothing.
use mathlib.Core.Path.{sym, ap, ◌∙◌}
use Rattle.std.proofs.Common.{is_some}
use Rattle.entry.proofs.Fits.{unset_by_kind}
use Rattle.entry.specs.Wanted.{wanted_of}
use Rattle.draft.proofs.Values.{wanted_carried, wanted_not_carried}
use Rattle.draft.proofs.wanted_ok.Goals as goal

pub returns-then-f-revision : goal.returns-then-f-revision
returns-then-f-revision c = wanted_carried _ _ _ c.if-f-revision.true (c.is_some.ensures ∙ ap is_some c.bits_of.ensures)

pub returns : goal.returns
returns c =
    let a = c.args in
    sym (unset_by_kind a.e.kind a.e.bits) ∙ wanted_not_carried _ _ (wanted_of a.e.kind a.e.bits) c.if-f-revision.false
