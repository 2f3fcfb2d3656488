-- A table whose meaning is right and that fits: its file passes, rule by rule.
-- Assumes nothing.
use mathlib.Core.Bool.{true}
use mathlib.Core.Path.{◌≡◌, sym, ap, ◌∙◌}
use native.Mathlib.Omega.{arith}
use borrow.Author.Tests.{eq-eqb}
use Rattle.table.specs.Rows.{Table}
use Rattle.table.specs.Rules.{index_ok, used_fields, form_ok, meaning_ok, table_ok}
use Rattle.encode.specs.Encode.{encode}
use Rattle.encode.specs.Theorems.{Encodes}
use Rattle.table.proofs.Passed.{File, file_ok_lem, meaning}
use Rattle.encode.proofs.Room.{Room, room}
use Rattle.encode.proofs.Laid.{index_for, counts_for}
use Rattle.encode.proofs.File as file
use Rattle.encode.proofs.Small.{bytes}
use Rattle.wire.proofs.Tests.{both_true}

module _ (tab : Table) (r : Room tab) where
  file_is : File (encode tab)
  file_is =
      let l = file.length_file tab in
      let n = file.count_is tab in
      record {
        least = omega (arith, l, r.count);
        most = omega (arith, l, r.size);
        parts = omega (arith, l, n, file.fields_are tab);
        count = omega (arith, n, r.count);
        blocks = omega (arith, n, file.to_blocks_lem tab);
        fields = file.to_fields_lem tab;
        crc = file.crc_is tab;
        low = file.low tab;
        high = file.high tab;
      }

  form_passes : form_ok (encode tab) ≡ true
  unfolding form_ok
  form_passes =
      let rows = file.rows_are tab in
      let index = ap (index_ok 0) rows ∙ index_for 0 tab.rows in
      let used = ap used_fields rows ∙ counts_for 0 tab.rows ∙ sym (file.fields_are tab) in
      both_true (both_true (file_ok_lem (encode tab) file_is) index) (eq-eqb _ _ used)

  table_passes : meaning_ok tab ≡ true → table_ok (encode tab) ≡ true
  unfolding table_ok
  table_passes e = both_true form_passes (ap meaning_ok (file.decoded tab) ∙ e)

pub encodes : Encodes
encodes tab e f =
    let r = room tab f in
    record { bytes = bytes tab (meaning tab e) r; passes = table_passes tab r e; decodes = file.decoded tab }
