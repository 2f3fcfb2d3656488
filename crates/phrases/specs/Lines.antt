-- The lines that the lister prints, byte by byte (rule S11).
-- Assumes nothing.
use Rattle.std.specs.Prelude.{ℕ, List, [], ◌∷◌, ◌++◌}
use Rattle.text.specs.Numbers.{spaced}
use Rattle.reader.specs.Said.{Report}
use Rattle.reader.specs.declared.Counts.{Counts}

-- S11: `block`, `end`, and the line's end, in ASCII
abbrev pub word_block : List ℕ
word_block = 98 ∷ 108 ∷ 111 ∷ 99 ∷ 107 ∷ []

abbrev pub word_end : List ℕ
word_end = 101 ∷ 110 ∷ 100 ∷ []

abbrev pub newline : List ℕ
newline = 10 ∷ []

-- S11: the line of a block
abbrev pub block_words : Report → List ℕ
block_words r = word_block ++ spaced r.place ++ spaced r.number ++ spaced r.revision ++ spaced r.size

abbrev pub block_line : Report → List ℕ
block_line r = block_words r ++ newline

-- S11: a run's counts, wherever they are printed
abbrev pub counts_text : Counts → List ℕ
counts_text c = spaced c.taken ++ spaced c.blocks ++ spaced c.skipped

-- S11: the last line
abbrev pub end_words : Counts → List ℕ
end_words c = word_end ++ counts_text c

abbrev pub end_line : Counts → List ℕ
end_line c = end_words c ++ newline
