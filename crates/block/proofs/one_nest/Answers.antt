-- `block::one_nest` meets its contract: where it stands, or none there.
-- Assumes nothing.
use mathlib.Core.Path.{ap}
use native.Mathlib.Omega.{arith}
use Rattle.block.specs.Block.{alone}
use Rattle.block.proofs.one_nest.Goals as goal

pub returns-then-k-from : goal.returns-then-k-from
returns-then-k-from c = λ h. ap alone c.sub_span-first.ensures

pub returns-else-k-from : goal.returns-else-k-from
returns-else-k-from c = λ h. absurd (omega arith)
