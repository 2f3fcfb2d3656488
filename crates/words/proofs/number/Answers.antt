-- `words::number` meets its contract. The invariant: what is left, behind the digits so far, gives the whole.
-- Assumes nothing.
use Rattle.std.proofs.Common.{sym, ap, ◌∙◌, ◌+◌, drop, arith}
use Rattle.words.specs.Words.{number_then}
use Rattle.words.proofs.Reading.{number_empty, number_some, number_step, number_end, then_none}
use Rattle.words.proofs.number.Goals as goal

pub returns-then-is_empty : goal.returns-then-is_empty
returns-then-is_empty c = sym (number_empty c.args.word.now (grind arith))

pub loop-c-init : goal.loop-c-init
loop-c-init c = sym (number_some c.args.word.now (grind arith))

pub returns-in_err-v : goal.returns-in_err-v
returns-in_err-v c =
    let l = c.loop-c in
    let w = c.args.word.now in
    let rest = drop (l.c-index + 1) w in
    rw c.from_residual.ensures (sym (then_none rest) ∙ ap (number_then rest) c.in_err-v.ensures ∙ sym (number_step w l.c-index l.v (omega arith)) ∙ l.invariant)

pub loop-c-preserved : goal.loop-c-preserved
loop-c-preserved c =
    let l = c.loop-c in
    let w = c.args.word.now in
    ap (number_then (drop (l.c-index + 1) w)) c.in_ok-v.ensures ∙ sym (number_step w l.c-index l.v (omega arith)) ∙ l.invariant

pub returns : goal.returns
returns c =
    let l = c.loop-c in
    sym (number_end c.args.word.now l.c-index l.v (omega arith)) ∙ l.invariant
