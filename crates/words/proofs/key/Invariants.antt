-- `words::key` meets its contract. The invariant: what is left gives the whole, and the number so far has as many digits as bytes are read.
-- Assumes nothing.
use Rattle.std.proofs.Common.{◌≡◌, ◌^◌, ◌≤◌, ◌<◌, length, drop}
use Rattle.words.specs.Words.{key_from, key_of}
use Rattle.words.proofs.key.Given as goal

abbrev pub invariant-loop-c : goal.invariant-loop-c
invariant-loop-c l = (length l.word ≤ 8) × (l.k < 256 ^ l.c-index) × (key_from l.k (drop l.c-index l.word) ≡ key_of l.word)
