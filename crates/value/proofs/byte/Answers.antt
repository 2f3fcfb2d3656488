-- `value::byte` meets its contract: a number of one byte is the byte.
-- Assumes nothing.
use mathlib.Core.Path.{sym, ◌∙◌}
use native.Mathlib.Nat.{add-zero}
use native.Mathlib.Omega.{arith}
use Rattle.wire.specs.Little.{little_at}
use Rattle.value.proofs.byte.Goals as goal

pub returns : goal.returns
unfolding little_at
returns c = (c.from.ensures ∙ sym (add-zero _), omega arith)
