-- From bytes to meaning: the rest of the trailer (rule T2), and what the rows mean (T7, T10). The crate `encode` goes the other
-- way.
-- Assumes nothing.
use Rattle.std.specs.Prelude.{cond, List, map, ℕ, ◌+◌, ◌-◌, eqb, length, take}
use Rattle.wire.specs.Little.{little_at}
use Rattle.rows.specs.declared.Row.{Row}
use Rattle.rows.specs.Places.{version_of, block_count, field_at, row_at}
use Rattle.table.specs.Lists.{tabulate}
use Rattle.table.specs.Rows.{BlockRow, Table}

-- T2: the distances to the first block row and to the first field row, and the CRC
abbrev pub to_blocks : List ℕ → ℕ
to_blocks t = little_at 2 t (length t - 8)

abbrev pub to_fields : List ℕ → ℕ
to_fields t = little_at 2 t (length t - 6)

abbrev pub crc_field : List ℕ → ℕ
crc_field t = little_at 2 t (length t - 4)

-- T5: the bytes before the CRC
abbrev pub covered : List ℕ → List ℕ
covered t = take (length t - 4) t

-- T1: the block rows as they stand
unfoldable pub rows_of : List ℕ → List Row
rows_of t = tabulate (row_at t) 0 (block_count t)

-- T10, T17: from the index on, the body rows and then the sub-field rows, the first level's first
unfoldable pub block_of : List ℕ → Row → BlockRow
block_of t r =
    record {
      number = r.number;
      highest = r.highest;
      body = tabulate (field_at t) r.start r.bodies;
      subs = tabulate (field_at t) (r.start + r.bodies) r.subs;
      firsts = r.firsts;
    }

-- T17: of a row as it stands, how many rows the first level has, or the only one
unfoldable pub first_count : Row → ℕ
first_count r = cond (eqb r.firsts 0) r.subs r.firsts

-- T2, T7, T11: what the bytes mean
unfoldable pub decode : List ℕ → Table
decode t = record { version = version_of t; rows = map (block_of t) (rows_of t) }
