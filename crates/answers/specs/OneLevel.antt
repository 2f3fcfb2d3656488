-- Rows of one level answer as before there were two (request M-102).
-- Assumes nothing.
use Rattle.std.specs.Prelude.{ℕ, ◌≡◌, List, true, Option, None, Some}
use Rattle.table.specs.Lists.{every}
use Rattle.table.specs.Rows.{BlockRow, Table}
use Rattle.table.specs.Decode.{rows_of, decode}
use Rattle.table.specs.Rules.{block_ok, table_ok}
use Rattle.table.specs.Lookup.{find_row}
use Rattle.value.specs.Said.{field_refused}
use Rattle.block.specs.Block.{number_in}
use Rattle.record.specs.Calls.{body_field, sub_field, sub_block, sub_place, sub_block_refusal}
use Rattle.epoch.specs.Second.{second_field}
use Rattle.epoch.specs.Ranges.{range_field, range2_field}
use Rattle.answers.specs.Before.{body_field_before, sub_field_before, sub_block_before, sub_place_before, sub_block_refusal_before, zero_ok_before, block_ok_before, table_ok_before}

-- T17: the row that the block is read by, if any, is of one level
abbrev pub OneLevel : Table → List ℕ → Type 0
OneLevel tab b = (r : BlockRow) → find_row tab (number_in b) ≡ Some r → r.firsts ≡ 0

-- R9: the number that a sub-block was refused with, else 9
abbrev pub or9 : Option ℕ → ℕ
or9 None = 9
or9 (Some n) = n

-- C13: each record call answers as before; C16: each new one refuses as Sub did, and with 9 where the sub-block is there
pub record AsBefore (tab : Table) (b : List ℕ) : Type 0 where
  pub body : (i : ℕ) → body_field tab b i ≡ body_field_before tab b i
  pub sub : (k j : ℕ) → sub_field tab b k j ≡ sub_field_before tab b k j
  pub part : (k : ℕ) → sub_block tab b k ≡ sub_block_before tab b k
  pub place : (k : ℕ) → sub_place tab b k ≡ sub_place_before tab b k
  pub twin : (k : ℕ) → sub_block_refusal tab b k ≡ sub_block_refusal_before tab b k
  pub second : (k m j : ℕ) → second_field tab b k m j ≡ field_refused (or9 (sub_block_refusal_before tab b k))
  pub range : (k : ℕ) → range_field tab b k ≡ field_refused (or9 (sub_block_refusal_before tab b k))
  pub range2 : (k m : ℕ) → range2_field tab b k m ≡ field_refused (or9 (sub_block_refusal_before tab b k))

-- the answers by a row of one level, and the rules on one; a table with no other row is valid exactly where it was. So a table that was
-- valid then is valid, and what is read by it is read as then
pub record OneLevelAsBefore : Type 0 where
  pub answers : (tab : Table) (b : List ℕ) → OneLevel tab b → AsBefore tab b
  pub rules : (r : BlockRow) → r.firsts ≡ 0 → block_ok r ≡ block_ok_before r
  pub tables : (t : List ℕ) → every zero_ok_before (rows_of t) ≡ true → table_ok t ≡ table_ok_before t
  pub valid : (t : List ℕ) → table_ok_before t ≡ true → table_ok t ≡ true
  pub read : (t b : List ℕ) → table_ok_before t ≡ true → AsBefore (decode t) b
