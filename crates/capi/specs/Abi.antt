-- The number of the interface that include/alderflute.h describes: its structs, its calls and the meaning of its numbers.
-- Assumes nothing.
use Rattle.std.specs.Prelude.{ℕ}

abbrev pub abi : ℕ
abi = 2
