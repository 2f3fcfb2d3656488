-- The header of a block that is written, read back; and that its CRC is a number of two bytes, since all of its bytes are bytes.
-- Assumes nothing.
use mathlib.Core.List.{List, [], ◌∷◌, ◌++◌, flat_map}
use Rattle.std.proofs.Common.{None}
use mathlib.Core.Path.{◌≡◌}
use Prim.Native.Nat.{ℕ, zero, suc, ◌+◌, ◌-◌, ◌<◌, ◌≤◌}
use native.Mathlib.Omega.{arith}
use lib.ListN.{length, get_or, drop}
use Rattle.crc.specs.Crc.{crc_of}
use Rattle.crc.proofs.Linear.{crc_small}
use Rattle.wire.specs.Little.{little_at}
use Rattle.wire.specs.Range.{Bytes}
use Rattle.frame.specs.Frame.{crc_at, id_at, length_at}
use Rattle.kinds.specs.Types.{size_of}
use Rattle.rows.specs.declared.FieldRow.{FieldRow}
use Rattle.table.specs.Rows.{BlockRow, ends}
use Rattle.table.specs.Lookup.{carried}
use Rattle.block.specs.Block.{number_in, revision_in}
use Rattle.pen.specs.Bytes.{little_bytes}
use Rattle.entry.specs.Wanted.{Wanted}
use Rattle.draft.specs.Draft.{Draft, block_length}
use Rattle.writer.specs.Block.{field_bits, field_out, zeros, laid, stamps_and_body, subs_part, id_for, unsealed_block, block_bytes}
use Rattle.wire.proofs.Tests.{bool?}
use Rattle.writing.proofs.Little.{bytes_little}

-- ---- bytes

pub bytes_append : (xs ys : List ℕ) → Bytes xs → Bytes ys → Bytes (xs ++ ys)
bytes_append [] ys a b j = b j
bytes_append (x ∷ xs) ys a b zero = a 0
bytes_append (x ∷ xs) ys a b (suc j) = bytes_append xs ys (λ i. a (suc i)) b j

bytes_zeros : (n : ℕ) → Bytes (zeros n)
bytes_zeros zero j = omega arith
bytes_zeros (suc n) zero = omega arith
bytes_zeros (suc n) (suc j) = bytes_zeros n j

bytes_laid : (revision at : ℕ) (fs : List FieldRow) (ws : List Wanted) → Bytes (laid revision at fs ws)
unfolding laid
bytes_laid revision at [] ws j = omega arith
bytes_laid revision at (f ∷ fs) ws j =
    let w = get_or ws 0 None in
    let gap = f.offset - at in
    let rest = laid revision (ends f) fs (drop 1 ws) in
    let here = bytes_little (size_of f.kind) (field_bits f w) in
    bool? (carried revision f)
    (λ t. rw t
    (bytes_append (zeros gap) (field_out f w ++ rest) (bytes_zeros gap)
    (bytes_append (field_out f w) rest here (bytes_laid revision (ends f) fs (drop 1 ws))) j))
    (λ t. rw t (bytes_laid revision at fs (drop 1 ws) j))

bytes_flat : {A : Type 0} (f : A → List ℕ) → ((x : A) → Bytes (f x)) → (xs : List A) → Bytes (flat_map f xs)
unfolding flat_map
bytes_flat f h [] j = omega arith
bytes_flat f h (x ∷ xs) j = bytes_append (f x) (flat_map f xs) (h x) (bytes_flat f h xs) j

pub bytes_unsealed : (r : BlockRow) (d : Draft) → Bytes (unsealed_block r d)
unfolding unsealed_block stamps_and_body subs_part
bytes_unsealed r d =
    let all = stamps_and_body r d ++ subs_part r d in
    let gap = block_length r d - (8 + length all) in
    let subs = bytes_flat (laid d.revision 0 r.subs) (bytes_laid d.revision 0 r.subs) d.subs in
    let parts = bytes_append (stamps_and_body r d) (subs_part r d) (bytes_laid d.revision 8 _ _) subs in
    bytes_append (little_bytes 2 (id_for d)) (little_bytes 2 (block_length r d) ++ (all ++ zeros gap)) (bytes_little 2 (id_for d))
    (bytes_append (little_bytes 2 (block_length r d)) (all ++ zeros gap) (bytes_little 2 (block_length r d))
    (bytes_append all (zeros gap) parts (bytes_zeros gap)))

-- ---- the CRC

pub crc_fits : (r : BlockRow) (d : Draft) → crc_of (unsealed_block r d) < 65536
unfolding crc_of
crc_fits r d = crc_small 0 (unsealed_block r d) (omega arith) (bytes_unsealed r d)

-- ---- the header

-- it is a header with these numbers
with_header : ℕ → ℕ → ℕ → List ℕ → List ℕ
with_header crc id size rest = 0x24 ∷ 0x40 ∷ (little_bytes 2 crc ++ (little_bytes 2 id ++ (little_bytes 2 size ++ rest)))

module _ (crc id size : ℕ) (rest : List ℕ) where
  crc_back : crc < 65536 → crc_at (with_header crc id size rest) 0 ≡ crc
  unfolding with_header little_at little_bytes
  crc_back h = omega arith

  id-back : id < 65536 → id_at (with_header crc id size rest) 0 ≡ id
  unfolding with_header little_at little_bytes
  id-back h = omega arith

  size_back : size < 65536 → length_at (with_header crc id size rest) 0 ≡ size
  unfolding with_header little_at little_bytes
  size_back h = omega arith

module _ (r : BlockRow) (d : Draft) where
  pub crc_is : crc_at (block_bytes r d) 0 ≡ crc_of (unsealed_block r d)
  unfolding block_bytes unsealed_block with_header
  crc_is = crc_back (crc_of (unsealed_block r d)) (id_for d) (block_length r d) _ (crc_fits r d)

  pub size_is : block_length r d ≤ 65532 → length_at (block_bytes r d) 0 ≡ block_length r d
  unfolding block_bytes unsealed_block with_header
  size_is h = size_back (crc_of (unsealed_block r d)) (id_for d) (block_length r d) _ (omega arith)

  id_is : d.number ≤ 8191 → d.revision ≤ 7 → id_at (block_bytes r d) 0 ≡ id_for d
  unfolding block_bytes unsealed_block with_header
  id_is n v = id-back (crc_of (unsealed_block r d)) (id_for d) (block_length r d) _ (omega arith)

  -- F9
  pub number_is : d.number ≤ 8191 → d.revision ≤ 7 → number_in (block_bytes r d) ≡ d.number
  number_is n v = rw (id_is n v) (omega arith)

  pub revision_is : d.number ≤ 8191 → d.revision ≤ 7 → revision_in (block_bytes r d) ≡ d.revision
  revision_is n v = rw (id_is n v) (omega arith)
