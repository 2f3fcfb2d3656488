-- What replay's lines have, whatever the call (docs/REPLAY.md): a refusal and the state, byte by byte.
-- Assumes nothing.
use Rattle.std.specs.Prelude.{ℕ, List, [], ◌∷◌, ◌++◌}
use Rattle.text.specs.Numbers.{spaced}
use Rattle.phrases.specs.Lines.{counts_text}
use Rattle.reader.specs.State.{phase_number}
use Rattle.reader.specs.declared.State.{State}

-- `refused`
abbrev pub word_refused : List ℕ
word_refused = 114 ∷ 101 ∷ 102 ∷ 117 ∷ 115 ∷ 101 ∷ 100 ∷ []

-- `|`, a space before it
abbrev pub word_bar : List ℕ
word_bar = 32 ∷ 124 ∷ []

abbrev pub refused_text : ℕ → List ℕ
refused_text n = word_refused ++ spaced n

-- the state's nine numbers, in REPLAY.md's order
abbrev pub state_text : State → List ℕ
state_text s =
    word_bar
    ++ spaced (phase_number s.run.phase)
    ++ spaced s.in_force
    ++ spaced s.waiting
    ++ spaced s.run.held
    ++ spaced s.run.standing
    ++ counts_text s.run.counts
    ++ spaced s.run.settings.ceiling
