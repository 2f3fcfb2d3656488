-- What a draft that may stand in a block of its row says of each list of fields: TOW, WNc and the body as one, and each sub-block.
-- Assumes nothing.
use mathlib.Core.Bool.{true, false}
use mathlib.Core.List.{List, [], ◌∷◌}
use Rattle.std.proofs.Common.{Some}
use mathlib.Core.Path.{◌≡◌, refl, ap₂, ◌∙◌}
use Prim.Native.Nat.{ℕ, ◌≤◌}
use native.Mathlib.Omega.{arith}
use lib.Dec.{leb}
use lib.ListN.{length}
use borrow.Author.Tests.{le-leb, lt-ltb}
use Rattle.wire.proofs.Tests.{both, both_true, bool?}
use Rattle.kinds.specs.Types.{u1, size_of}
use Rattle.kinds.specs.Marks.{unmarked, mark_fits, is_do_not_use}
use Rattle.rows.specs.declared.FieldRow.{FieldRow}
use Rattle.rows.specs.Places.{field_row}
use Rattle.table.specs.Lists.{every, pick}
use Rattle.table.specs.Rows.{BlockRow}
use Rattle.value.specs.Said.{unsigned}
use Rattle.block.specs.Block.{has_subs}
use Rattle.record.specs.Calls.{tow_row, wnc_row}
use Rattle.entry.specs.Wanted.{Wanted}
use Rattle.entry.specs.Bits.{bits_for, bits_of, wanted_ok, list_ok}
use Rattle.draft.specs.Draft.{Draft, stamps_ok, body_ok, subs_ok, sb_length}
use Rattle.lay.specs.Code.{in_order}
use Rattle.writer.specs.Block.{body_values}
use Rattle.writing.proofs.Picks.{every_pick, pick_below}
use Rattle.writer.proofs.Rows.{FieldsKept, RowKept, pair_is}
use Rattle.draft.proofs.Admitted.{Admitted}

-- ---- N and SBLength

-- a byte is its own bits, in a row of one byte without a mark
pub byte_bits : (at n : ℕ) → n ≤ 255 → bits_of (field_row at u1 0 unmarked) (Some (unsigned n)) ≡ Some n
unfolding bits_of bits_for size_of is_do_not_use
byte_bits at n h = rw (lt-ltb n 256 (omega arith))

byte_ok : (revision at n : ℕ) → n ≤ 255 → wanted_ok revision (field_row at u1 0 unmarked) (Some (unsigned n)) ≡ true
unfolding wanted_ok
byte_ok revision at n h = rw (le-leb 0 revision (omega arith), byte_bits at n h)

-- ---- every list of fields

-- TOW, WNc and the body, as fields and as values
abbrev pub stamped : BlockRow → List FieldRow
stamped r = tow_row ∷ wnc_row ∷ r.body

abbrev pub stamped_values : BlockRow → Draft → List Wanted
stamped_values r d = d.tow ∷ d.wnc ∷ body_values r d

pub stamped_kept : (r : BlockRow) → RowKept r → FieldsKept 8 (stamped r)
unfolding in_order every size_of mark_fits
stamped_kept r kept = record { order = kept.body.order; types = kept.body.types; marks = kept.body.marks }

module _ (r : BlockRow) (d : Draft) where
  pub pair_values : has_subs r ≡ true → body_values r d ≡ Some (unsigned (length d.subs)) ∷ Some (unsigned (sb_length r d)) ∷ []
  unfolding body_values
  pair_values h = rw h

  pub plain-values : has_subs r ≡ false → body_values r d ≡ d.body
  unfolding body_values
  plain-values h = rw h

module _ (r : BlockRow) (d : Draft) (kept : RowKept r) (accepts : Admitted r d) (small : sb_length r d ≤ 255) where
  pair_ok : has_subs r ≡ true → list_ok d.revision r.body (body_values r d) ≡ true
  unfolding list_ok every
  pair_ok h =
      ap₂ (list_ok d.revision) (pair_is r.body (kept.pair h)) (pair_values r d h)
      ∙ both_true (byte_ok d.revision 14 (length d.subs) accepts.few) (both_true (byte_ok d.revision 15 (sb_length r d) small) refl)

  plain_ok : has_subs r ≡ false → list_ok d.revision r.body (body_values r d) ≡ true
  unfolding body_ok
  plain_ok h = rw (plain-values r d h) (rw h at accepts.body)

  pub stamped_ok : list_ok d.revision (stamped r) (stamped_values r d) ≡ true
  unfolding list_ok stamps_ok
  stamped_ok =
      let s = both (wanted_ok d.revision tow_row d.tow) _ accepts.stamps in
      both_true s.0 (both_true s.1 (bool? (has_subs r) pair_ok plain_ok))

  pub sub_ok : (k : ℕ) (ws : List Wanted) → pick d.subs k ≡ Some ws → (has_subs r ≡ true) × (list_ok d.revision r.subs ws ≡ true)
  unfolding subs_ok
  sub_ok k ws q =
      bool? (has_subs r)
      (λ h. (h, every_pick (list_ok d.revision r.subs) d.subs (both (leb (length d.subs) 255) _ (rw h at accepts.subs)).1 k ws q))
      (λ h. let n = accepts.alone h in let l = pick_below d.subs k ws q in absurd (omega arith))
