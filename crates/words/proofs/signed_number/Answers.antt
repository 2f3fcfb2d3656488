-- `words::signed_number` meets its contract: each return is one law of `signed_number_in`.
-- Assumes nothing.
use Rattle.std.proofs.Common.{ap, ◌∙◌, arith}
use Rattle.words.specs.Words.{decimal_in}
use Rattle.words.specs.Values.{from_zero, below_zero}
use Rattle.words.proofs.Valuing.{rest_whole, signed_empty, signed_minus, signed_plus}
use Rattle.words.proofs.signed_number.Goals as goal

pub returns-in-empty : goal.returns-in-empty
returns-in-empty c = signed_empty _ (omega arith)

pub returns-in-45 : goal.returns-in-45
returns-in-45 c =
    let w = c.args.word.now in
    c.below_zero.ensures ∙ ap below_zero (c.number.ensures ∙ ap decimal_in (rest_whole w 1)) ∙ signed_minus w (omega arith) (omega arith)

pub returns-in_default : goal.returns-in_default
returns-in_default c =
    let w = c.args.word.now in
    c.from_zero.ensures ∙ ap from_zero c.number-in_default.ensures ∙ signed_plus w (omega arith) (λ e. omega arith)
