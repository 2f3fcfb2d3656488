-- `writer::put_stamps` meets its contract: WNc goes behind TOW.
-- Assumes nothing.
use mathlib.Core.List.{[]}
use Rattle.kinds.specs.Types.{size_of}
use Rattle.draft.specs.Draft.{draft_of}
use Rattle.writer.proofs.Stamps.{tow_allowed, wnc_allowed, stamps_stored}
use Rattle.writer.proofs.put_stamps.Goals as goal

pub given-first-requires : goal.given-first-requires
given-first-requires c =
    tow_allowed (draft_of c.args.h [] []) c.requires.1

pub given-second-requires : goal.given-second-requires
given-second-requires c =
    wnc_allowed (draft_of c.args.h [] []) c.requires.1

pub returns : goal.returns
unfolding size_of
returns c =
    let a = c.args in
    stamps_stored a.out.now _ _ _ _ c.given-first.ensures c.given-second.ensures c.little.ensures c.little-2.ensures
