-- `crc::after_bytes` meets its contract. The loop's invariant: what is left, from the present register, gives the whole's.
-- Assumes nothing.
use Rattle.std.proofs.Common.{◌≡◌, drop}
use Rattle.crc.specs.Crc.{crc_from}
use Rattle.crc.proofs.after_bytes.Given as goal

abbrev pub invariant-loop-b : goal.invariant-loop-b
invariant-loop-b l = crc_from l.c (drop l.b-index l.s) ≡ crc_from l.crc l.s
