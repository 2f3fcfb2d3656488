-- A block that was made is one whole frame, by its header and its length; read as a run, with any ceiling that it is not above, it is
-- one block.
-- Assumes nothing.
use mathlib.Core.Bool.{true}
use mathlib.Core.Path.{◌≡◌, refl, sym, ap, ◌∙◌}
use Prim.Native.Nat.{ℕ, ◌+◌, ◌%◌, ◌<◌, ◌≤◌}
use native.Mathlib.Nat.{zero-add}
use native.Mathlib.Omega.{arith}
use lib.ListN.{length, take, drop}
use lib.Seq.{take_all, take-length}
use borrow.Author.Tests.{eq-eqb, le-leb}
use Rattle.crc.specs.Crc.{crc_of}
use Rattle.frame.specs.Frame.{greatest_ceiling, sync_at, length_at, allowed, ends_within, crc_right, frame_at, whole_frame}
use Rattle.framing.specs.ReadRun.{block_at, nothing_read, block_then, read_run}
use Rattle.framing.specs.Theorems.{read_at}
use Rattle.framing.proofs.Reading.{rule}
use Rattle.pen.specs.Bytes.{little_bytes}
use Rattle.table.specs.Rows.{BlockRow}
use Rattle.draft.specs.Draft.{Draft, block_end_by, block_end, block_length}
use Rattle.writer.specs.Block.{unsealed_block, block_bytes}
use Rattle.writing.specs.Theorems.{one_block, AllFramed}
use Rattle.wire.proofs.Tests.{both_true}
use Rattle.draft.proofs.Ends.{round-holds}
use Rattle.lay.proofs.Laying.{at_last}
use Rattle.writer.proofs.Rows.{RowKept}
use Rattle.writer.proofs.Lengths.{length_block}
use Rattle.writing.proofs.Making.{making}
use Rattle.writing.proofs.Header.{crc_is, size_is, number_is, revision_is}

-- ---- the frame

module _ (r : BlockRow) (d : Draft) (k : RowKept r) (most : block_length r d ≤ 65532) where
  -- L is the length of the bytes
  size_all : length_at (block_bytes r d) 0 ≡ length (block_bytes r d)
  size_all = size_is r d most ∙ sym (length_block r d k)

  sync : sync_at (block_bytes r d) 0 ≡ true
  unfolding sync_at block_bytes
  sync = refl

  eight : 8 ≤ block_length r d
  unfolding block_end_by
  eight = omega (arith, at_last d.revision 14 r.body k.body.order, round-holds (block_end r d))

  size_allowed : (top : ℕ) → block_length r d ≤ top → allowed top (length_at (block_bytes r d) 0) ≡ true
  unfolding allowed
  size_allowed top under =
      rw (size_is r d most)
      (both_true (both_true (eq-eqb (block_length r d % 4) 0 (omega arith)) (le-leb 8 (block_length r d) eight)) (le-leb (block_length r d) top under))

  within : ends_within (block_bytes r d) 0 ≡ true
  unfolding ends_within
  within = le-leb (0 + length_at (block_bytes r d) 0) (length (block_bytes r d)) (omega (arith, size_all))

  -- the CRC is of all behind it
  behind : drop 4 (block_bytes r d) ≡ unsealed_block r d
  unfolding block_bytes little_bytes
  behind = refl

  crc-right : crc_right (block_bytes r d) 0 ≡ true
  unfolding crc_right
  crc-right =
      let all : take (0 + length_at (block_bytes r d) 0) (block_bytes r d) ≡ block_bytes r d =
      take_all (0 + length_at (block_bytes r d) 0) (block_bytes r d) (omega (arith, size_all)) in
      eq-eqb _ _ (crc_is r d ∙ ap crc_of (sym (ap (drop 4) all ∙ behind)))

  pub stands : (top : ℕ) → block_length r d ≤ top → frame_at top (block_bytes r d) 0 ≡ true
  unfolding frame_at
  stands top under = both_true (both_true (both_true sync (size_allowed top under)) within) crc-right

  pub is_whole : whole_frame (block_bytes r d) ≡ true
  unfolding whole_frame
  is_whole = both_true (stands greatest_ceiling most) (eq-eqb _ _ size_all)

  -- ---- the run

  rest_none : (top : ℕ) → read_at top (block_bytes r d) (0 + length_at (block_bytes r d) 0) ≡ nothing_read
  rest_none top =
      ap (read_at top (block_bytes r d)) (zero-add (length_at (block_bytes r d) 0) ∙ size_all) ∙ (rule top).end (block_bytes r d)

  block_is_lem : d.number ≤ 8191 → d.revision ≤ 7 → block_then (block_at 0 (length_at (block_bytes r d) 0) (block_bytes r d)) nothing_read ≡ one_block d (block_bytes r d)
  unfolding block_at
  block_is_lem n v = rw (size_all, take-length (block_bytes r d), number_is r d n v, revision_is r d n v)

  one_block_lem : d.number ≤ 8191 → d.revision ≤ 7 → (top : ℕ) → block_length r d ≤ top → read_run top 0 (block_bytes r d) ≡ one_block d (block_bytes r d)
  one_block_lem n v top under =
      let some : 0 < length (block_bytes r d) = omega (arith, length_block r d k, eight) in
      (rule top).block (block_bytes r d) 0 some (stands top under)
      ∙ ap (block_then (block_at 0 (length_at (block_bytes r d) 0) (block_bytes r d))) (rest_none top)
      ∙ block_is_lem n v

pub all_framed : AllFramed
all_framed c tab r d buffer b m =
    let g = making c tab r d buffer b m in
    let k = g.found.kept in
    rw g.bytes
    (record {
      whole = is_whole r d k g.room.most;
      run = λ top under. one_block_lem r d k g.room.most g.found.small g.draft.revision top (omega (arith, under, length_block r d k));
    })
