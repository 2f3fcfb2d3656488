-- `scribe::read_full` answers how many bytes it put at the buffer's start.
use Rattle.std.proofs.Common.{sym, length-take-le}
use Rattle.scribe.proofs.read_full.Goals as goal

pub returns : goal.returns
returns c =
    let l = c.loop-done in
    (l.invariant, sym (length-take-le l.done l.buf l.invariant))
