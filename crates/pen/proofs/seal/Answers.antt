-- `pen::seal` meets its contract: each number goes behind the one before it.
-- Assumes nothing.
use mathlib.Core.Path.{◌∙◌}
use Rattle.pen.proofs.Sealing.{sealed_by}
use Rattle.pen.proofs.seal.Goals as goal

pub returns : goal.returns
returns c = sealed_by _ _ _ c.little.ensures c.little-2.ensures (c.from.ensures ∙ c.crc_of-crc.ensures) c.little-3.ensures c.little-4.ensures
