-- `words::word_end` meets its contract: `up_to` finds what `position` finds.
-- Assumes nothing.
use Rattle.std.proofs.Common.{◌≡◌, ℕ, Option, length, unwrap_or, position, eqb, sym, ap, ◌∙◌, rules, tests}
use Rattle.std.proofs.lemmas.Iterator.Search.{position_from_yields_List}
use Rattle.std.proofs.lemmas.Iterator.{YieldsList-from_slice}
use Rattle.words.proofs.Reading.{up_is}
use Rattle.words.proofs.word_end.Goals as goal

pub returns-clause-value : goal.returns-clause-value
returns-clause-value c =
    let w = c.args.text.now in
    let e : c.position.result ≡ position (λ b. eqb b 32) w =
    position_from_yields_List _ _ _ _ c.position.ensures.ran (YieldsList-from_slice w c.iter.ensures.rest) (λ x b q k. search (rules, tests)) in
    c.unwrap_or.ensures ∙ ap (λ (o : Option ℕ). unwrap_or o (length w)) e ∙ sym (up_is w)
