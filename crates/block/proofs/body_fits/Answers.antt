-- `block::body_fits` meets its contract.
-- Assumes nothing.
use Rattle.block.proofs.Blocks.{fits_by}
use Rattle.block.proofs.body_fits.Goals as goal

pub returns : goal.returns
returns c = fits_by _ c.args.row c.revision-rev.ensures c.all_end-all.ensures
