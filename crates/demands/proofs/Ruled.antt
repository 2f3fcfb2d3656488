-- A row of a table that passes keeps the rules; of one level, as far as Write asks.
-- Assumes nothing.
use Prim.Native.Nat.{ℕ}
use mathlib.Core.Path.{◌≡◌}
use mathlib.Core.Bool.{true}
use mathlib.Core.List.{List}
use Rattle.table.specs.Rows.{BlockRow}
use Rattle.table.specs.Decode.{decode}
use Rattle.table.specs.Rules.{block_ok, table_ok}
use Rattle.table.proofs.Passed.{passed}
use Rattle.writer.proofs.Rows.{RowKept, row_kept}
use Rattle.demands.specs.Refusals.{RowOf}
use Rattle.demands.proofs.Listed.{every_at_lem}

module _ (t : List ℕ) (ok : table_ok t ≡ true) (n : ℕ) (r : BlockRow) (h : RowOf (decode t) n r) where
  pub rules_of : block_ok r ≡ true
  rules_of = every_at_lem block_ok (decode t).rows h.among.0 h.among.1 (passed t ok).meaning.blocks

  pub ruled : r.firsts ≡ 0 → RowKept r
  ruled one = row_kept r rules_of one
