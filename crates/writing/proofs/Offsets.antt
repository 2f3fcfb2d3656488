-- A field that the revision carries stands at its offset in `laid`, with the bits that it is written with: by induction over the rows,
-- what is before the rows that are left is of `at` bytes.
-- Assumes nothing.
use mathlib.Core.Bool.{true, false}
use mathlib.Core.List.{List, [], ◌∷◌, ◌++◌, append_assoc}
use Rattle.std.proofs.Common.{None, Some}
use mathlib.Core.Path.{◌≡◌, sym, ap, ◌∙◌}
use Prim.Native.Nat.{ℕ, zero, suc, ◌-◌, ◌^◌, ◌<◌, ◌≤◌}
use native.Mathlib.Nat.{add-zero}
use native.Mathlib.Omega.{arith}
use lib.ListN.{length, get_or, drop, length-append, length-replicate}
use Rattle.wire.specs.Little.{little_at}
use Rattle.wire.proofs.Tests.{both, bool?}
use Rattle.kinds.specs.Types.{size_of}
use Rattle.rows.specs.declared.FieldRow.{FieldRow}
use Rattle.table.specs.Lists.{pick}
use Rattle.table.specs.Rows.{ends}
use Rattle.table.specs.Lookup.{carried}
use Rattle.pen.proofs.Stores.{length_little}
use Rattle.value.specs.Bits.{value_of, field_value}
use Rattle.entry.specs.Wanted.{Wanted}
use Rattle.entry.specs.Bits.{wanted_ok, list_ok}
use Rattle.writer.specs.Block.{field_bits, field_out, zeros, laid}
use Rattle.writing.specs.Theorems.{said_back}
use Rattle.writing.proofs.Little.{little_behind, little_back}
use Rattle.writer.proofs.Rows.{FieldsKept}
use Rattle.writing.proofs.Values.{bits_read}
use Rattle.writing.proofs.Wanting.{starts_by, kept_kind, kept_rest, kept_still, row_kind, wanted_bits_lem, bits_are, get_d_rest, wanted_at}

-- what is before a field, and with it
abbrev before : ℕ → List ℕ → FieldRow → List ℕ
before at pre f = pre ++ zeros (f.offset - at)

abbrev up_to : ℕ → List ℕ → FieldRow → Wanted → List ℕ
up_to at pre f w = before at pre f ++ field_out f w

module _ (at : ℕ) (pre : List ℕ) (f : FieldRow) (w : Wanted) (length-pre : length pre ≡ at) (after : at ≤ f.offset) where
  length_before : length (before at pre f) ≡ f.offset
  length_before = length-append pre (zeros (f.offset - at)) ∙ rw (length-replicate {A = ℕ} (f.offset - at) 0, length-pre) (omega arith)

  length_with : length (up_to at pre f w) ≡ ends f
  length_with = length-append (before at pre f) (field_out f w) ∙ rw (length_before, length_little (size_of f.kind) (field_bits f w))

  field_at : (rest b : List ℕ) → b ≡ before at pre f ++ (field_out f w ++ rest) → field_bits f w < 256 ^ size_of f.kind
      → little_at (size_of f.kind) b f.offset ≡ field_bits f w
  field_at rest b e h =
      ap (λ (s : List ℕ). little_at (size_of f.kind) s f.offset) e
      ∙ ap (little_at (size_of f.kind) (before at pre f ++ (field_out f w ++ rest))) (sym length_before ∙ sym (add-zero (length (before at pre f))))
      ∙ little_behind (size_of f.kind) (before at pre f) (field_out f w ++ rest) 0 ∙ little_back (size_of f.kind) (field_bits f w) rest h

-- bytes that have the rows from `at` on, where the first of them is carried, and where it is not
module _ (revision at : ℕ) (f : FieldRow) (fs : List FieldRow) (ws : List Wanted) (pre rest : List ℕ) where
  laid_front : carried revision f ≡ true
      → pre ++ (laid revision at (f ∷ fs) ws ++ rest) ≡ before at pre f ++ (field_out f (get_or ws 0 None) ++ (laid revision (ends f) fs (drop 1 ws) ++ rest))
  unfolding laid
  laid_front c = rw c (simp append_assoc)

  laid_on : carried revision f ≡ true
      → pre ++ (laid revision at (f ∷ fs) ws ++ rest) ≡ up_to at pre f (get_or ws 0 None) ++ (laid revision (ends f) fs (drop 1 ws) ++ rest)
  laid_on c = laid_front c ∙ sym (append_assoc (before at pre f) (field_out f (get_or ws 0 None)) (laid revision (ends f) fs (drop 1 ws) ++ rest))

  laid_not : carried revision f ≡ false → pre ++ (laid revision at (f ∷ fs) ws ++ rest) ≡ pre ++ (laid revision at fs (drop 1 ws) ++ rest)
  unfolding laid
  laid_not c = rw c

-- the field of row i, in bytes that have the rows from `at` on
pub laid-bits : (revision at : ℕ) (fs : List FieldRow) (ws : List Wanted) → FieldsKept at fs → list_ok revision fs ws ≡ true → (pre rest b : List ℕ)
    → length pre ≡ at → b ≡ pre ++ (laid revision at fs ws ++ rest) → (i : ℕ) (f : FieldRow) → pick fs i ≡ Some f → carried revision f ≡ true
    → little_at (size_of f.kind) b f.offset ≡ field_bits f (get_or ws i None)
unfolding list_ok pick
laid-bits revision at [] ws kept ok pre rest b p e i f q c = cc
laid-bits revision at (g ∷ fs) ws kept ok pre rest b p e zero f q c =
    let same : g ≡ f = cc in
    let cg : carried revision g ≡ true = rw same c in
    let w = get_or ws 0 None in
    let k = kept_kind at g fs kept in
    let x = wanted_bits_lem revision g w (both (wanted_ok revision g w) _ ok).0 cg in
    let m : field_bits g w < 256 ^ size_of g.kind = rw (bits_are g w x.1) (bits_read g w x.0 k.0 k.1 x.1).0 in
    rw (← same)
    (field_at at pre g w p (starts_by at g fs kept) (laid revision (ends g) fs (drop 1 ws) ++ rest) b (e ∙ laid_front revision at g fs ws pre rest cg) m)
laid-bits revision at (g ∷ fs) ws kept ok pre rest b p e (suc i) f q c =
    let w = get_or ws 0 None in
    let oks = (both (wanted_ok revision g w) _ ok).1 in
    bool? (carried revision g)
    (λ y.
    laid-bits revision (ends g) fs (drop 1 ws) (kept_rest at g fs kept) oks (up_to at pre g w) rest b (length_with at pre g w p (starts_by at g fs kept))
    (e ∙ laid_on revision at g fs ws pre rest y) i f q c)
    (λ y.
    laid-bits revision at fs (drop 1 ws) (kept_still at g fs kept) oks pre rest b p (e ∙ laid_not revision at g fs ws pre rest y) i f q c)
    ∙ ap (field_bits f) (get_d_rest ws i None)

-- it reads as what was wanted of it
pub laid_reads : (revision at : ℕ) (fs : List FieldRow) (ws : List Wanted) → FieldsKept at fs → list_ok revision fs ws ≡ true → (pre rest b : List ℕ)
    → length pre ≡ at → b ≡ pre ++ (laid revision at fs ws ++ rest) → (i : ℕ) (f : FieldRow) → pick fs i ≡ Some f → carried revision f ≡ true
    → field_value b f ≡ said_back (get_or ws i None)
unfolding field_value
laid_reads revision at fs ws kept ok pre rest b p e i f q c =
    let w = get_or ws i None in
    let k = row_kind at fs kept i f q in
    let x = wanted_bits_lem revision f w (wanted_at revision fs ws ok i f q) c in
    ap (value_of f.kind f.mark) (laid-bits revision at fs ws kept ok pre rest b p e i f q c ∙ bits_are f w x.1)
    ∙ (bits_read f w x.0 k.0 k.1 x.1).1
