-- `pen::little` meets its contract. The invariant: what is stored and what is left give the whole.
-- Assumes nothing.
use mathlib.Core.List.{◌++◌}
use mathlib.Core.Path.{◌≡◌}
use Prim.Native.Nat.{◌-◌}
use lib.ListN.{take}
use Rattle.pen.specs.Bytes.{little_bytes}
use Rattle.pen.proofs.little.Given as goal

abbrev pub invariant-loop-byte : goal.invariant-loop-byte
invariant-loop-byte l = take l.byte-index l.byte-items ++ little_bytes (l.size - l.byte-index) l.rest ≡ little_bytes l.size l.x
