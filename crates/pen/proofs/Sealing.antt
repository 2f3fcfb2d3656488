-- ID, L, sync pair and CRC over a buffer that has the rest.
-- Assumes nothing.
use mathlib.Core.List.{List}
use mathlib.Core.Path.{◌≡◌, ap, ◌∙◌}
use Prim.Native.Nat.{ℕ, ◌-◌}
use lib.ListN.{take, drop}
use lib.Seq.{sets}
use Rattle.crc.specs.Crc.{crc_of}
use Rattle.pen.specs.Bytes.{little_bytes}
use Rattle.pen.specs.Seal.{headed, sealed}

-- by the stores that the code makes, one after the other
pub sealed_by : (s : List ℕ) (id all : ℕ) {a b d e : List ℕ} {crc : ℕ} → a ≡ sets s 4 (little_bytes 2 id) → b ≡ sets a 6 (little_bytes 2 all)
    → crc ≡ crc_of (take (all - 4) (drop 4 b)) → d ≡ sets b 0 (little_bytes 2 0x4024) → e ≡ sets d 2 (little_bytes 2 crc) → e ≡ sealed s id all
unfolding sealed little_bytes
sealed_by s id all {a} {b} {d} {e} {crc} g h i j k =
    let head : b ≡ headed s id all = h ∙ ap (λ (x : List ℕ). sets x 6 (little_bytes 2 all)) g in
    k ∙ rw (j, i, head)
