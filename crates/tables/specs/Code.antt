-- A working definition for the code: what the check of a table comes to. No public contract cites it.
-- Assumes nothing.
use Rattle.std.specs.Prelude.{ℕ, cond, List}
use Rattle.table.specs.Decode.{decode}
use Rattle.table.specs.Rules.{table_ok}
use Rattle.reader.specs.Said.{Said, refused, version}

-- what Open and Stage say of a table: 4, or its version
abbrev pub version_or4 : List ℕ → Said
version_or4 t = cond (table_ok t) (version (decode t).version) (refused 4)
