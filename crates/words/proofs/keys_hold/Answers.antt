-- `words::keys_hold`: antt computes each key.
-- Assumes nothing.
use mathlib.Core.Path.{refl}
use Rattle.words.specs.Words.{key_from, key_of}
use Rattle.words.specs.Keys.{letters_of}
use Rattle.words.proofs.keys_hold.Goals as goal

pub returns : goal.returns
unfolding key_from key_of letters_of
returns c =
    (refl, refl, refl, refl, refl, refl, refl, refl, refl, refl, refl, refl, refl, refl, refl, refl, refl, refl, refl, refl, refl, refl, refl, refl, refl, refl, refl, refl, refl, refl)
