-- `words::key` meets its contract. The invariant: what is left gives the whole, and the number so far has as many digits as bytes are read.
-- Assumes nothing.
use Rattle.std.proofs.Common.{sym, ◌∙◌, arith}
use Rattle.words.proofs.Reading.{key_grows, key_zero, key_more, key_end}
use Rattle.words.proofs.key.Goals as goal

pub returns-then-c-eq0 : goal.returns-then-c-eq0
returns-then-c-eq0 c =
    let l = c.loop-c in
    sym (key_zero c.args.word.now l.c-index l.k (omega arith) c.if-c-eq0.true) ∙ l.invariant.2

pub loop-c-preserved : goal.loop-c-preserved
loop-c-preserved c =
    let l = c.loop-c in
    let m = key_more c.args.word.now l.c-index l.k (omega arith) c.if-c-eq0.false in
    (omega arith, key_grows l.k c.from.result l.c-index l.invariant.1 (omega arith), rw c.from.ensures (sym m ∙ l.invariant.2))

pub returns : goal.returns
returns c =
    let l = c.loop-c in
    sym (key_end c.args.word.now l.c-index l.k (omega arith)) ∙ l.invariant.2
