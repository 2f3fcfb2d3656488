-- `draft::stamps_ok` meets its contract: every revision carries TOW and WNc.
-- Assumes nothing.
use mathlib.Core.Path.{refl, ◌∙◌}
use Rattle.draft.specs.Draft.{stamps_ok}
use Rattle.draft.proofs.Values.{wanted_always}
use Rattle.draft.proofs.stamps_ok.Goals as goal

pub returns-then-wanted_ok : goal.returns-then-wanted_ok
unfolding stamps_ok
returns-then-wanted_ok c =
    let revision = c.args.h.revision in
    let tow = c.if-wanted_ok.ensures ∙ wanted_always revision _ _ refl in
    let wnc = c.wanted_ok-then-wanted_ok.ensures ∙ wanted_always revision _ _ refl in
    rw (← tow) wnc

pub returns-else-wanted_ok : goal.returns-else-wanted_ok
unfolding stamps_ok
returns-else-wanted_ok c =
    let tow = c.if-wanted_ok.ensures ∙ wanted_always c.args.h.revision _ _ refl in
    c.if-wanted_ok.false ∙ rw (← tow)
