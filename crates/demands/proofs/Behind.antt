-- W1, W8: a block has as many bytes as Write answers, so behind it the buffer is what it was.
-- Assumes nothing.
use Prim.Native.Nat.{ℕ, ◌≤◌}
use native.Mathlib.Omega.{arith}
use mathlib.Core.Path.{◌≡◌, sym, ap, ◌∙◌}
use mathlib.Core.List.{List}
use lib.ListN.{length, drop}
use lib.Seq.{drop-append_seam}
use Rattle.table.specs.Rows.{BlockRow}
use Rattle.copy.specs.Over.{over}
use Rattle.draft.specs.Draft.{Draft, block_length}
use Rattle.writer.specs.Block.{block_bytes}
use Rattle.writer.proofs.Rows.{RowKept}
use Rattle.writer.proofs.Lengths.{length_block}
use Rattle.demands.proofs.Force.{length_over}

module _ (r : BlockRow) (d : Draft) (k : RowKept r) where
  pub behind : (buffer : List ℕ) → drop (block_length r d) (over (block_bytes r d) buffer) ≡ drop (block_length r d) buffer
  behind buffer =
      ap (λ (n : ℕ). drop n (over (block_bytes r d) buffer)) (sym (length_block r d k))
      ∙ drop-append_seam (block_bytes r d) (drop (length (block_bytes r d)) buffer)
      ∙ ap (λ (n : ℕ). drop n buffer) (length_block r d k)

  pub as_long : (buffer : List ℕ) → block_length r d ≤ length buffer → length (over (block_bytes r d) buffer) ≡ length buffer
  as_long buffer l = length_over (block_bytes r d) buffer (omega (arith, length_block r d k, l))
