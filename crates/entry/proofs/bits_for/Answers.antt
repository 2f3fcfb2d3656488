-- `entry::bits_for` meets its contract: each arm is its entry of `wanted_kinds`.
-- Assumes nothing.
use Rattle.entry.specs.Wanted.{wanted_of}
use Rattle.entry.specs.Bits.{bits_for}
use Rattle.entry.proofs.bits_for.Goals as goal

pub returns-in-2 : goal.returns-in-2
unfolding wanted_of bits_for
returns-in-2 c = rw c.in-2.is c.signed_bits.ensures
