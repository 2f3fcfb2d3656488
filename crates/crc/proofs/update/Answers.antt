-- `crc::update` meets its contract: one slice and then the other are both in a row.
-- Assumes nothing.
use Rattle.crc.proofs.Step.{from_append}
use Rattle.crc.proofs.update.Goals as goal

pub returns : goal.returns
returns c = rw (from_append, ← c.after_bytes-c.ensures) c.after_bytes.ensures
