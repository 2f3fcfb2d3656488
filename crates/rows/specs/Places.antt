-- Where in a table's bytes its rows stand, and the trailer's version and count (rules T1, T2, T7, T11).
-- Assumes nothing.
use Rattle.std.specs.Prelude.{List, ℕ, ◌+◌, ◌-◌, ◌*◌, ◌/◌, length, get_or}
use Rattle.wire.specs.Little.{little_at}
use Rattle.rows.specs.declared.FieldRow.{FieldRow}
use Rattle.rows.specs.declared.Row.{Row}

-- T2: the trailer's first two numbers, the version and R
abbrev pub version_of : List ℕ → ℕ
version_of t = little_at 2 t (length t - 12)

abbrev pub block_count : List ℕ → ℕ
block_count t = little_at 2 t (length t - 10)

-- T1: field rows first, then block rows, then the trailer
abbrev pub blocks_at : List ℕ → ℕ
blocks_at t = length t - (12 + 8 * block_count t)

abbrev pub field_count : List ℕ → ℕ
field_count t = blocks_at t / 4

-- T11: the field row of index i
unfoldable pub field_at : List ℕ → ℕ → FieldRow
field_at t i =
    record { offset = get_or t (4 * i) 0; kind = get_or t (4 * i + 1) 0; first = get_or t (4 * i + 2) 0; mark = get_or t (4 * i + 3) 0 }

-- T11: offset, type, first revision, mark
abbrev pub field_row : ℕ → ℕ → ℕ → ℕ → FieldRow
field_row offset kind first mark = record { offset = offset; kind = kind; first = first; mark = mark }

-- T11: the four bytes of a field row
abbrev pub field_of : List ℕ → FieldRow
field_of b = field_row (get_or b 0 0) (get_or b 1 0) (get_or b 2 0) (get_or b 3 0)

-- T7: the block row at p
unfoldable pub row_from : List ℕ → ℕ → Row
row_from t p =
    record {
      number = little_at 2 t p;
      highest = get_or t (p + 2) 0;
      bodies = get_or t (p + 3) 0;
      start = little_at 2 t (p + 4);
      subs = get_or t (p + 6) 0;
      firsts = get_or t (p + 7) 0;
    }

-- T1, T7: block row i
unfoldable pub row_at : List ℕ → ℕ → Row
row_at t i = row_from t (blocks_at t + 8 * i)
