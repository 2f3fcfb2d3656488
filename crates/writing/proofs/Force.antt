-- Write wrote, so no refusal came before: the state is sound and its ceiling is one, the table in force passes, and each record call
-- answers by it.
-- Assumes nothing.
use mathlib.Core.Bool.{true, ◌&&◌}
use mathlib.Core.List.{List}
use Rattle.std.proofs.Common.{Option, None, Some}
use mathlib.Core.Path.{◌≡◌, refl, sym, ap, ◌∙◌}
use Prim.Native.Nat.{ℕ, ◌%◌}
use lib.Dec.{ltb}
use lib.ListN.{length, take}
use borrow.Author.Tests.{le-leb, eq-eqb}
use Rattle.wire.proofs.Tests.{both, both_true}
use Rattle.frame.specs.Frame.{greatest_ceiling, ceiling_ok}
use Rattle.frame.proofs.View.{Ceiling}
use Rattle.rows.specs.declared.FieldRow.{FieldRow}
use Rattle.table.specs.Rows.{BlockRow}
use Rattle.table.specs.Decode.{decode}
use Rattle.table.specs.Lookup.{find_row}
use Rattle.table.specs.Rules.{form_ok, meaning_ok, table_ok}
use Rattle.record.specs.Calls.{body_field, sub_field, sub_block_refusal, stamp, tow_row, wnc_row}
use Rattle.reader.specs.State.{ceiling_of, sound}
use Rattle.reader.specs.Refusals.{need, long_store, table_refusal}
use Rattle.reader.specs.declared.State.{State}
use Rattle.reader.proofs.Laws.{passes, facts}
use Rattle.records.specs.Calls.{table_in_force, ask_refusal, body_of, sub_of, sub_bytes_refusal, stamp_of}
use Rattle.records.proofs.Asking.{asked}
use Rattle.draft.specs.Draft.{Draft}
use Rattle.writer.specs.Write.{wrote, WriteOutcome, written_by, writable_row, written_of}
use Rattle.writes.specs.Calls.{written_unless, write_of}
use Rattle.writing.specs.Theorems.{Made, ReadsBack}
use Rattle.writing.specs.InForce.{ReadsBackInForce, AllReadBackInForce}
use Rattle.writing.proofs.Making.{refused_none}
use Rattle.writing.proofs.Reading.{all_read_back}

-- ---- nothing was refused

asked_none : (o : Option ℕ) (buffer : List ℕ) (w : WriteOutcome) (n : ℕ) → (written_unless o buffer w).said ≡ wrote n → o ≡ None
asked_none None buffer w n e = refl
asked_none (Some m) buffer w n e = refused_none m n e

row_found : (c : ℕ) (o : Option BlockRow) (d : Draft) (buffer : List ℕ) (n : ℕ) → (written_by c (writable_row o) d buffer).said ≡ wrote n
    → (r : BlockRow) × (o ≡ Some r)
unfolding written_by
row_found c None d buffer n e = refused_none 6 n e
row_found c (Some r) d buffer n e = (r, refl)

sound_by : (s : State) (force : List ℕ) → ask_refusal s force ≡ None → sound s ≡ true
unfolding ask_refusal
sound_by s force e =
    (both (sound s) (long_store force)
    (passes (sound s && long_store force) 1 (need (ltb 0 s.in_force) 5 (table_refusal (table_in_force s force))) e).0
    ).0

ceiling_by : (c : ℕ) → Ceiling c → ceiling_ok c ≡ true
unfolding ceiling_ok
ceiling_by c f = both_true (both_true (eq-eqb (c % 4) 0 f.four) (le-leb 16 c f.low)) (le-leb c greatest_ceiling f.high)

meaning_by : (s : State) (force : List ℕ) → ask_refusal s force ≡ None → meaning_ok (decode (table_in_force s force)) ≡ true
unfolding table_ok
meaning_by s force e = (both (form_ok (table_in_force s force)) _ (asked s force e).ok).1

-- ---- the calls answer by the table in force

module _ (s : State) (force b : List ℕ) (e : ask_refusal s force ≡ None) where
  stamp_in_lem : (f : FieldRow) → stamp_of f s b ≡ stamp f b
  unfolding stamp_of
  stamp_in_lem f = rw (sound_by s force e)

  body_in : (i : ℕ) → body_of s force b i ≡ body_field (decode (table_in_force s force)) b i
  unfolding body_of
  body_in i = rw e

  sub_in : (k j : ℕ) → sub_of s force b k j ≡ sub_field (decode (table_in_force s force)) b k j
  unfolding sub_of
  sub_in k j = rw e

  part_in : (k : ℕ) → sub_bytes_refusal s force b k ≡ sub_block_refusal (decode (table_in_force s force)) b k
  unfolding sub_bytes_refusal
  part_in k = rw e

  back_in : (r : BlockRow) (d : Draft) → find_row (decode (table_in_force s force)) d.number ≡ Some r
      → ReadsBack (decode (table_in_force s force)) r d b → ReadsBackInForce s force r d b
  back_in r d found back =
      record {
        found = found;
        tow = stamp_in_lem tow_row ∙ back.tow;
        wnc = stamp_in_lem wnc_row ∙ back.wnc;
        body = λ i. body_in i ∙ back.body i;
        sub = λ k j. sub_in k j ∙ back.sub k j;
        part = λ k. part_in k ∙ back.part k;
        tow_given = λ n h. back.tow_given n (sym (stamp_in_lem tow_row) ∙ h);
        wnc_given = λ n h. back.wnc_given n (sym (stamp_in_lem wnc_row) ∙ h);
        body_nine = λ i n h. back.body_nine i n (sym (body_in i) ∙ h);
        sub_nine = λ k j n h. back.sub_nine k j n (sym (sub_in k j) ∙ h);
      }

pub all_read_back_in_force : AllReadBackInForce
unfolding write_of written_of
all_read_back_in_force s force d buffer b m =
    let c = ceiling_of s in
    let tab = decode (table_in_force s force) in
    let e = asked_none (ask_refusal s force) buffer (written_of c tab d buffer) (length b) m.answer in
    let w : write_of s force d buffer ≡ written_of c tab d buffer = ap (λ (o : Option ℕ). written_unless o buffer (written_of c tab d buffer)) e in
    let answer = ap (λ (x : WriteOutcome). x.said) (sym w) ∙ m.answer in
    let f = row_found c (find_row tab d.number) d buffer (length b) answer in
    let made : Made c tab f.0 d buffer b =
    record {
      ceiling = ceiling_by c (facts s (sound_by s force e)).ceiling;
      right = meaning_by s force e;
      found = f.1;
      answer = answer;
      front = ap (λ (x : WriteOutcome). take (length b) x.buffer) (sym w) ∙ m.front;
    } in
    (f.0, back_in s force b e f.0 d f.1 (all_read_back c tab f.0 d buffer b made))
