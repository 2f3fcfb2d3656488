-- A block's header over a buffer that has the rest (rules F2, F3, F6).
-- Assumes nothing.
use Rattle.std.specs.Prelude.{ℕ, ◌-◌, List, ◌∷◌, ◌++◌, take, drop}
use Rattle.std.proofs.lemmas.List.Edits.{sets}
use Rattle.crc.specs.Crc.{crc_of}
use Rattle.pen.specs.Bytes.{little_bytes}

-- F3: ID and L
abbrev pub headed : List ℕ → ℕ → ℕ → List ℕ
headed s id all = sets s 4 (little_bytes 2 id ++ little_bytes 2 all)

-- F2, F6: and then the sync pair and the CRC of all from ID on
unfoldable pub sealed : List ℕ → ℕ → ℕ → List ℕ
sealed s id all = let t = headed s id all in sets t 0 (0x24 ∷ 0x40 ∷ little_bytes 2 (crc_of (take (all - 4) (drop 4 t))))
