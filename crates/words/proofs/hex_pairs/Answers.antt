-- `words::hex_pairs` meets its contract. The invariant: the bytes so far, with what is left behind them, are the whole.
-- Assumes nothing.
use Rattle.std.proofs.Common.{◌≡◌, sym, ap, ◌∙◌, ◌*◌, ◌/◌, length, take, arith}
use Rattle.words.proofs.Reading.{before, before_last, bytes_odd, bytes_end, high_bad, low_bad, pair_more}
use Rattle.words.proofs.hex_pairs.Goals as goal

pub returns-in_err-high-clause-given_after : goal.returns-in_err-high-clause-given_after
returns-in_err-high-clause-given_after c =
    let l = c.loop-i in
    rw c.from_residual.ensures (sym (ap (before (take l.i l.given)) (high_bad c.args.word.now (2 * l.i) (omega arith) c.in_err-high.ensures)) ∙ l.invariant)

pub returns-in_err-low-clause-given_after : goal.returns-in_err-low-clause-given_after
returns-in_err-low-clause-given_after c =
    let l = c.loop-i in
    rw c.from_residual-in_err-low.ensures (sym (ap (before (take l.i l.given)) (low_bad c.args.word.now (2 * l.i) (omega arith) c.in_err-low.ensures)) ∙ l.invariant)

pub loop-i-preserved : goal.loop-i-preserved
loop-i-preserved c =
    let l = c.loop-i in
    let x = c.in_ok-high.ensures in
    let y = c.in_ok-low.ensures in
    pair_more c.args.word.now l.given l.i c.in_ok-high.high c.in_ok-low.low x.0 y.0 x.1 y.1 (omega arith) (omega arith) ∙ l.invariant

pub returns-then-word-eq0-clause-given_after : goal.returns-then-word-eq0-clause-given_after
returns-then-word-eq0-clause-given_after c =
    let l = c.loop-i in
    let e : length c.args.word.now / 2 ≡ l.i = omega arith in
    rw e (sym (before_last (take l.i l.given)) ∙ sym (ap (before (take l.i l.given)) (bytes_end c.args.word.now (2 * l.i) (omega arith))) ∙ l.invariant)

pub returns-clause-given_after : goal.returns-clause-given_after
returns-clause-given_after c =
    let l = c.loop-i in
    sym (ap (before (take l.i l.given)) (bytes_odd c.args.word.now (2 * l.i) (omega arith))) ∙ l.invariant
