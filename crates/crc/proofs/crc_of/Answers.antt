-- `crc::crc_of` meets its contract: nothing follows the slice.
-- Assumes nothing.
use mathlib.Core.Path.{ap, ◌∙◌}
use mathlib.Core.List.{append-nil}
use Rattle.crc.specs.Crc.{crc_from, crc_of}
use Rattle.crc.proofs.crc_of.Goals as goal

pub returns : goal.returns
unfolding crc_of
returns c = c.update.ensures ∙ ap (crc_from 0) (append-nil _)
