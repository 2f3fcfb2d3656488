-- `block::sub_span` meets its contract: two bytes have a small product.
-- Assumes nothing.
use native.Mathlib.Omega.{arith}
use Rattle.walk.proofs.Walks.{small}
use Rattle.block.proofs.Blocks.{span_is}
use Rattle.block.proofs.sub_span.Goals as goal

pub overflow_mul-at : goal.overflow_mul-at
overflow_mul-at c = omega (arith, small _ c.from-size.result c.requires.0 (omega arith))

pub overflow_add-at : goal.overflow_add-at
overflow_add-at c = omega (arith, small _ c.from-size.result c.requires.0 (omega arith))

pub returns : goal.returns
returns c = span_is c.args.block.now _ c.from-size.ensures
