-- A table, there and back: from bytes that pass to their meaning, and from a meaning that is right and fits to its file.
-- Assumes nothing.
use Rattle.std.specs.Prelude.{true, List, ◌≡◌, ℕ}
use Rattle.wire.specs.Range.{Bytes}
use Rattle.table.specs.Rows.{Table}
use Rattle.table.specs.Decode.{decode}
use Rattle.table.specs.Rules.{meaning_ok, table_ok}
use Rattle.encode.specs.Encode.{encode}
use Rattle.encode.specs.Fits.{fits}

-- a table that passes decodes: what it means gives its bytes back
abbrev pub Decodes : Type 0
Decodes = (t : List ℕ) → Bytes t → table_ok t ≡ true → encode (decode t) ≡ t

-- the table has a file: bytes that pass, and decode to it
pub record Encoded (tab : Table) : Type 0 where
  pub bytes : Bytes (encode tab)
  pub passes : table_ok (encode tab) ≡ true
  pub decodes : decode (encode tab) ≡ tab

-- a table whose meaning is right and that fits encodes
abbrev pub Encodes : Type 0
Encodes = (tab : Table) → meaning_ok tab ≡ true → fits tab ≡ true → Encoded tab

-- and nothing that passes is left out: its meaning fits. It is right by `table_ok`, so tables that pass and tables whose meaning is right and
-- that fit correspond one to one
abbrev pub PassingFits : Type 0
PassingFits = (t : List ℕ) → Bytes t → table_ok t ≡ true → fits (decode t) ≡ true
