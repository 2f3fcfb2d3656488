-- The sample of the lister's output (rule S11), as its two lines, and two numbers in decimal.
-- Assumes nothing.
use Rattle.std.specs.Prelude.{◌≡◌, [], ◌∷◌}
use Rattle.text.specs.Numbers.{decimal}
use Rattle.phrases.specs.Lines.{block_line, end_line}

-- S11: block 1 0 0 8
abbrev SampleBlock : Type 0
SampleBlock =
    block_line (record { place = 1; number = 0; revision = 0; size = 8 })
    ≡ 98 ∷ 108 ∷ 111 ∷ 99 ∷ 107 ∷ 32 ∷ 49 ∷ 32 ∷ 48 ∷ 32 ∷ 48 ∷ 32 ∷ 56 ∷ 10 ∷ []

-- S11: end 10 1 2
abbrev SampleEnd : Type 0
SampleEnd = end_line (record { taken = 10; blocks = 1; skipped = 2 }) ≡ 101 ∷ 110 ∷ 100 ∷ 32 ∷ 49 ∷ 48 ∷ 32 ∷ 49 ∷ 32 ∷ 50 ∷ 10 ∷ []

-- 9999, and the most bytes of a run, 4294967295
abbrev SampleNumbers : Type 0
SampleNumbers =
    (decimal 9999 ≡ 57 ∷ 57 ∷ 57 ∷ 57 ∷ []) × (decimal 4294967295 ≡ 52 ∷ 50 ∷ 57 ∷ 52 ∷ 57 ∷ 54 ∷ 55 ∷ 50 ∷ 57 ∷ 53 ∷ [])

abbrev pub LineSamplesHold : Type 0
LineSamplesHold = SampleBlock × SampleEnd × SampleNumbers
