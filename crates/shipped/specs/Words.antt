-- The words in which the rows are written, and what such a list means as a table: the rows without their names.
-- Assumes nothing.
use Rattle.std.specs.Prelude.{List, ◌++◌, map, ℕ, length}
use Prim.Native.String.{String}
use Rattle.rows.specs.declared.FieldRow.{FieldRow}
use Rattle.table.specs.Rows.{BlockRow, Table}

pub record NamedField : Type 0 where
  pub name : String
  pub row : FieldRow

-- name, type, offset, first revision, mark
abbrev pub field : String → ℕ → ℕ → ℕ → ℕ → NamedField
field name kind offset first mark = record { name = name; row = record { offset = offset; kind = kind; first = first; mark = mark } }

pub record NamedBlock : Type 0 where
  pub name : String
  pub number : ℕ
  pub highest : ℕ
  pub body : List NamedField
  pub subs : List NamedField
  pub firsts : ℕ

-- of one level: name, number, highest revision, body, sub-fields
abbrev pub block : String → ℕ → ℕ → List NamedField → List NamedField → NamedBlock
block name number highest body subs = record { name = name; number = number; highest = highest; body = body; subs = subs; firsts = 0 }

-- T17, of two levels: name, number, highest revision, body, the first level's fields, the second's
abbrev pub two_levels : String → ℕ → ℕ → List NamedField → List NamedField → List NamedField → NamedBlock
two_levels name number highest body first second =
    record { name = name; number = number; highest = highest; body = body; subs = first ++ second; firsts = length first }

abbrev pub row_of : NamedBlock → BlockRow
row_of b =
    record {
      number = b.number;
      highest = b.highest;
      body = map (λ (f : NamedField). f.row) b.body;
      subs = map (λ (f : NamedField). f.row) b.subs;
      firsts = b.firsts;
    }

abbrev pub table_of : ℕ → List NamedBlock → Table
table_of version blocks = record { version = version; rows = map row_of blocks }
