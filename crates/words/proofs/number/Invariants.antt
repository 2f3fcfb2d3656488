-- `words::number` meets its contract. The invariant: what is left, behind the digits so far, gives the whole.
-- Assumes nothing.
use Rattle.std.proofs.Common.{◌≡◌, drop, Some}
use Rattle.words.specs.Words.{number_then, decimal_in}
use Rattle.words.proofs.number.Given as goal

abbrev pub invariant-loop-c : goal.invariant-loop-c
invariant-loop-c l = number_then (drop l.c-index l.word) (Some l.v) ≡ decimal_in l.word
