-- `words::hex_pairs` meets its contract. The invariant: the bytes so far, with what is left behind them, are the whole.
-- Assumes nothing.
use Rattle.std.proofs.Common.{◌≡◌, ◌*◌, take, drop}
use Rattle.words.specs.Words.{bytes_from}
use Rattle.words.proofs.Reading.{before}
use Rattle.words.proofs.hex_pairs.Given as goal

abbrev pub invariant-loop-i : goal.invariant-loop-i
invariant-loop-i l = before (take l.i l.given) (bytes_from (drop (2 * l.i) l.word)) ≡ bytes_from l.word
