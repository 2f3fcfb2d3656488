-- `crc::remainders` keeps the rule: a test of one entry, which antt computes at all 256.
-- Assumes nothing.
use mathlib.Core.Path.{◌≡◌, refl}
use mathlib.Core.List.{List}
use mathlib.Core.Bool.{Bool}
use Prim.Native.Nat.{ℕ, ◌*◌}
use lib.Dec.{T, eqb, eqb→eq}
use lib.ListN.{length, get_or}
use Rattle.crc.specs.Crc.{crc_bits8, crc_bit, Remainders}
use Rattle.crc.proofs.Table.{every_at, at}
use Rattle.crc.proofs.remainders.Goals as goal

-- entry k is eight bits of k x 256
right : ℕ → ℕ → Bool
right k x = eqb x (crc_bits8 (k * 256))

tested : (t : List ℕ) → length t ≡ 256 → T (every_at right 0 t) → Remainders t
unfolding right Remainders
tested t n all k h = eqb→eq (get_or t k 0) (crc_bits8 (k * 256)) (at right t all k (rw n h))

pub returns : goal.returns
unfolding right crc_bits8 crc_bit
returns c = tested _ refl tt
