-- What a table means: a version and a list of block rows, each with its field rows, and which of them are of which level. Nothing here
-- knows a table's bytes.
-- Assumes nothing.
use Rattle.std.specs.Prelude.{Bool, cond, List, [], ℕ, ◌+◌, ◌-◌, eqb, take, drop, Option}
use Rattle.rows.specs.declared.FieldRow.{FieldRow}
use Rattle.kinds.specs.Types.{size_of}
use Rattle.table.specs.Lists.{pick}

-- T7, T11: a FieldRow is offset, kind (the type), first (the first revision) and mark. T17: of the rows `subs` the first `firsts` are the
-- first level's; with 0 there is one level, and all are its
pub record BlockRow : Type 0 where
  pub number : ℕ
  pub highest : ℕ
  pub body : List FieldRow
  pub subs : List FieldRow
  pub firsts : ℕ

pub record Table : Type 0 where
  pub version : ℕ
  pub rows : List BlockRow

-- T13: where a field ends
abbrev pub ends : FieldRow → ℕ
ends f = f.offset + size_of f.kind

-- T17: whether its sub-blocks, if any, are of one level
abbrev pub one_level : BlockRow → Bool
one_level b = eqb b.firsts 0

-- T17: the rows of the first level, or of the only one
unfoldable pub first_rows : BlockRow → List FieldRow
first_rows b = cond (one_level b) b.subs (take b.firsts b.subs)

-- T17: the rows of the second level
unfoldable pub second_rows : BlockRow → List FieldRow
second_rows b = cond (one_level b) [] (drop b.firsts b.subs)

-- T20: of two levels, the row of N2: the first level's last
abbrev pub nested_row : BlockRow → Option FieldRow
nested_row b = pick b.subs (b.firsts - 1)
