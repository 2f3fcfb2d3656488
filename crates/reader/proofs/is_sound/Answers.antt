-- `reader::is_sound` meets its contract: the same tests.
-- Assumes nothing.
use Rattle.std.proofs.Common.{rules}
use Rattle.reader.specs.State.{sound}
use Rattle.reader.proofs.is_sound.Goals as goal

pub returns : goal.returns
unfolding sound
returns c = search rules
