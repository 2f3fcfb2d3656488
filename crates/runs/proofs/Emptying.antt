-- Bytes hands back nothing where it is refused.
-- Assumes nothing.
use mathlib.Core.Path.{◌≡◌, ap}
use mathlib.Core.List.{List, []}
use Rattle.std.proofs.Common.{Option, Some}
use Prim.Native.Nat.{ℕ}
use lib.ListN.{take}
use Rattle.reader.specs.Outcome.{part_unless}
use Rattle.reader.specs.declared.State.{State}
use Rattle.runs.specs.Refusals.{bytes_refusal}
use Rattle.runs.specs.Calls.{bytes_of}

pub bytes_empty : (s : State) (hold : List ℕ) (n : ℕ) → bytes_refusal s hold ≡ Some n → bytes_of s hold ≡ []
unfolding bytes_of
bytes_empty s hold n e = ap (λ (o : Option ℕ). part_unless o (take s.run.standing hold)) e
