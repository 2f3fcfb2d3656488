-- `words::value` meets its contract: each return is one law of `value_in`.
-- Assumes nothing.
use Rattle.std.proofs.Common.{ap, ◌∙◌, arith, get_or}
use Rattle.words.specs.Values.{letter_is}
use Rattle.words.proofs.Valuing.{rest_whole, value_empty, value_lone, value_letter}
use Rattle.words.proofs.value.Goals as goal

pub returns-in-empty : goal.returns-in-empty
returns-in-empty c = value_empty _ (omega arith)

pub returns-in-len1 : goal.returns-in-len1
returns-in-len1 c = c.lone.ensures ∙ value_lone _ (omega arith)

pub returns-in-len1-up : goal.returns-in-len1-up
returns-in-len1-up c =
    let w = c.args.word.now in
    c.lettered.ensures ∙ ap (letter_is (get_or w 0 0)) (rest_whole w 1) ∙ value_letter w (omega arith)
