-- `crc::after_byte` meets its contract: through a table that keeps the rule, a byte step is the rule on bits.
-- Assumes nothing.
use Rattle.std.proofs.Common.{arith}
use Rattle.crc.proofs.Step.{index_lt, by_table}
use Rattle.crc.proofs.after_byte.Goals as goal

pub bounds-t-k : goal.bounds-t-k
bounds-t-k c = rw (c.from-k.ensures, c.from.ensures) (index_lt c.args.c c.args.b (omega arith) (omega arith))

pub returns : goal.returns
returns c =
    let a = c.args in
    rw (c.from-k.ensures, c.from.ensures) (by_table a.c a.b (omega arith) (omega arith) a.t.now c.requires)
