-- What holds of every block that Write made (rules W20 to W24), by the definitions that the contracts of the writer and of the record
-- calls cite.
-- Assumes nothing.
use Rattle.std.specs.Prelude.{ℕ, ◌%◌, ◌≤◌, ◌<◌, true, cond, List, [], ◌∷◌, ◌≡◌, length, get_or, take, Option, None, Some}
use Rattle.wire.specs.Range.{Bytes}
use Rattle.frame.specs.Frame.{ceiling_ok, whole_frame}
use Rattle.framing.specs.ReadRun.{Reading, read_run}
use Rattle.rows.specs.declared.FieldRow.{FieldRow}
use Rattle.table.specs.Lists.{tabulate, pick}
use Rattle.table.specs.Rows.{BlockRow, Table}
use Rattle.table.specs.Decode.{decode}
use Rattle.table.specs.Rules.{meaning_ok, table_ok}
use Rattle.table.specs.Lookup.{carried, find_row}
use Rattle.value.specs.Said.{FieldSaid, unsigned, signed, single, double, do_not_use, not_in_revision, field_refused}
use Rattle.copy.specs.Over.{over}
use Rattle.block.specs.Block.{number_in, revision_in, has_subs, sub_count}
use Rattle.record.specs.Calls.{body_field, sub_field, sub_block_refusal, tow_row, wnc_row, stamp}
use Rattle.entry.specs.Wanted.{Wanted}
use Rattle.draft.specs.Draft.{Draft, draft_ok, sb_length, block_length}
use Rattle.writer.specs.Write.{wrote, write_outcome, written_of}
use Rattle.writing.specs.Holds.{HoldsFields, Holds}

-- b is a block that Write made of a draft by a row, under the ceiling c: as many bytes at the start of the buffer as it answered
pub record Made (c : ℕ) (tab : Table) (r : BlockRow) (d : Draft) (buffer b : List ℕ) : Type 0 where
  pub ceiling : ceiling_ok c ≡ true
  pub right : meaning_ok tab ≡ true
  pub found : find_row tab d.number ≡ Some r
  pub answer : (written_of c tab d buffer).said ≡ wrote (length b)
  pub front : take (length b) (written_of c tab d buffer).buffer ≡ b

-- ---- W20

-- what a carried field answers: the value, or Do-Not-Use where it was unset
abbrev pub said_back : Wanted → FieldSaid
said_back None = do_not_use
said_back (Some said) = said

-- of a row that is there, and R9 of one that is not
abbrev pub row_back : ℕ → Option FieldRow → Wanted → FieldSaid
row_back revision None w = field_refused 9
row_back revision (Some f) w = cond (carried revision f) (said_back w) not_in_revision

-- the same in a sub-block that is there, and R9 of one that is not; j is the field's number
abbrev pub sub_back : ℕ → Option FieldRow → ℕ → Option (List Wanted) → FieldSaid
sub_back revision f j None = field_refused 9
sub_back revision f j (Some ws) = row_back revision f (get_or ws j None)

abbrev pub part_back : Option (List Wanted) → Option ℕ
part_back None = Some 9
part_back (Some ws) = None

-- W7, W20: the values of the body, by the rule and apart from the writer: with sub-fields N and SBLength, and without what was given
unfoldable pub body_given : BlockRow → Draft → List Wanted
body_given r d = cond (has_subs r) (Some (unsigned (length d.subs)) ∷ Some (unsigned (sb_length r d)) ∷ []) d.body

pub record ReadsBack (tab : Table) (r : BlockRow) (d : Draft) (b : List ℕ) : Type 0 where
  pub number : number_in b ≡ d.number
  pub revision : revision_in b ≡ d.revision
  pub tow : stamp tow_row b ≡ said_back d.tow
  pub wnc : stamp wnc_row b ≡ said_back d.wnc
  -- N and SBLength are among these
  pub body : (i : ℕ) → body_field tab b i ≡ row_back d.revision (pick r.body i) (get_or (body_given r d) i None)
  pub sub : (k j : ℕ) → sub_field tab b k j ≡ sub_back d.revision (pick r.subs j) j (pick d.subs k)
  pub part : (k : ℕ) → sub_block_refusal tab b k ≡ part_back (pick d.subs k)
  -- no call is refused but with 9
  pub tow_given : (n : ℕ) → stamp tow_row b ≡ field_refused n → ⊥
  pub wnc_given : (n : ℕ) → stamp wnc_row b ≡ field_refused n → ⊥
  pub body_nine : (i n : ℕ) → body_field tab b i ≡ field_refused n → n ≡ 9
  pub sub_nine : (k j n : ℕ) → sub_field tab b k j ≡ field_refused n → n ≡ 9

abbrev pub AllReadBack : Type 0
AllReadBack = (c : ℕ) (tab : Table) (r : BlockRow) (d : Draft) (buffer b : List ℕ) → Made c tab r d buffer b → ReadsBack tab r d b

-- ---- W21

-- what was read, as it is given again
abbrev pub as_read : FieldSaid → Wanted
as_read (unsigned n) = Some (unsigned n)
as_read (signed z) = Some (signed z)
as_read (single x) = Some (single x)
as_read (double x) = Some (double x)
as_read do_not_use = None
as_read not_in_revision = None
as_read (field_refused n) = Some (field_refused n)

-- all that the record calls answer of a block, as a draft; N and SBLength are not given
unfoldable pub draft_read : Table → BlockRow → List ℕ → Draft
draft_read tab r b =
    record {
      number = number_in b;
      revision = revision_in b;
      tow = as_read (stamp tow_row b);
      wnc = as_read (stamp wnc_row b);
      body = cond (has_subs r) [] (tabulate (λ i. as_read (body_field tab b i)) 0 (length r.body));
      subs = tabulate (λ k. tabulate (λ j. as_read (sub_field tab b k j)) 0 (length r.subs)) 0 (sub_count b r);
    }

-- under the same ceiling or another one that has room
abbrev pub AllWriteBack : Type 0
AllWriteBack =
    (c top : ℕ) (tab : Table) (r : BlockRow) (d : Draft) (buffer b room : List ℕ) → Made c tab r d buffer b → length b ≤ top
    → length b ≤ length room
    → written_of top tab (draft_read tab r b) room ≡ write_outcome (wrote (length b)) (over b room)

-- ---- W22

-- a run of this one block
abbrev pub one_block : Draft → List ℕ → Reading
one_block d b =
    record {
      blocks = record { place = 0; number = d.number; revision = d.revision; size = length b; bytes = b } ∷ [];
      skipped = [];
    }

pub record FramedAlone (d : Draft) (b : List ℕ) : Type 0 where
  pub whole : whole_frame b ≡ true
  -- with any ceiling that is not below its length
  pub run : (top : ℕ) → length b ≤ top → read_run top 0 b ≡ one_block d b

abbrev pub AllFramed : Type 0
AllFramed = (c : ℕ) (tab : Table) (r : BlockRow) (d : Draft) (buffer b : List ℕ) → Made c tab r d buffer b → FramedAlone d b

-- ---- W23

-- SBLength is the least that holds the carried sub-fields, where there are sub-blocks, and L the least multiple of 4 that holds all
pub record Shortest (r : BlockRow) (d : Draft) (n : ℕ) : Type 0 where
  pub sub_holds : 0 < length d.subs → HoldsFields d.revision r.subs (sb_length r d)
  pub sub_shortest : (m : ℕ) → HoldsFields d.revision r.subs m → sb_length r d ≤ m
  pub sub_none : length d.subs ≡ 0 → sb_length r d ≡ 0
  pub multiple : n % 4 ≡ 0
  pub holds : Holds r d (sb_length r d) n
  pub shortest : (m : ℕ) → m % 4 ≡ 0 → Holds r d (sb_length r d) m → n ≤ m

abbrev pub AllShortest : Type 0
AllShortest = (c : ℕ) (tab : Table) (r : BlockRow) (d : Draft) (buffer b : List ℕ) → Made c tab r d buffer b → Shortest r d (length b)

-- ---- W24

abbrev pub NeverOver : Type 0
NeverOver =
    (t : List ℕ) (r : BlockRow) (d : Draft) → Bytes t → table_ok t ≡ true → find_row (decode t) d.number ≡ Some r → draft_ok r d ≡ true
    → sb_length r d ≤ 255 → block_length r d ≤ 65532
