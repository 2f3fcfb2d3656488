-- The world of a reader, its calls, their answers, and what a call does: made of the very functions that the contracts of the reader's calls cite.
-- Assumes nothing.
use Rattle.std.specs.Prelude.{ℕ, Bool, List, [], ◌∷◌, Option, None, Some, unwrap_or}
use Rattle.record.specs.Answer.{FieldSaid, do_not_use, double, field_refused, not_in_revision, signed, single, unsigned}
use Rattle.reader.specs.Said.{Report, Said, refused, version, took, found, ended, waited}
use Rattle.runs.specs.Refusals.{bytes_refusal}
use Rattle.reader.specs.Outcome.{Outcome}
use Rattle.tables.specs.Calls.{open_of, stage_of, withdraw_of}
use Rattle.runs.specs.Calls.{feed_of, finish_of, bytes_of}
use Rattle.records.specs.Calls.{body_of, sub_of, sub_bytes_of, sub_bytes_refusal, tow_of, wnc_of}
use Rattle.epochs.specs.Calls.{sub2_of, range_of, range2_of}
use Rattle.draft.specs.Draft.{Draft}
use Rattle.writer.specs.Write.{WriteSaid, wrote, write_refused, WriteOutcome}
use Rattle.writes.specs.Calls.{write_of}
use Rattle.reader.specs.declared.Counts.{Counts}
use Rattle.reader.specs.declared.Settings.{Settings}
use Rattle.reader.specs.declared.State.{State}

-- C1, C2: the state and the three buffers, as they are between two calls
pub record World : Type 0 where
  pub state : State
  pub hold : List ℕ
  pub force : List ℕ
  pub wait : List ℕ

-- C10, C11: the table calls, with the table that Stage is given
pub data TableCall : Type 0 where
  stage : List ℕ → TableCall
  withdraw : TableCall

-- C9, C13, C16, W1: the calls that change neither state nor the three buffers: Bytes, the record calls with the bytes and the numbers given to
-- them, and Write with a draft and a buffer of the caller's own
pub data Look : Type 0 where
  bytes : Look
  body : List ℕ → ℕ → Look
  sub : List ℕ → ℕ → ℕ → Look
  sub_bytes : List ℕ → ℕ → Look
  sub2 : List ℕ → ℕ → ℕ → ℕ → Look
  range : List ℕ → ℕ → Look
  range2 : List ℕ → ℕ → ℕ → Look
  tow : List ℕ → Look
  wnc : List ℕ → Look
  write : Draft → List ℕ → Look

pub data Call : Type 0 where
  -- C17: with settings
  open_run : Settings → Call
  feed : List ℕ → Call
  finish : Call
  table : TableCall → Call
  look : Look → Call

-- what a call answers; a part comes with what its twin call tells (R22), and Write's answer with its buffer
pub data Reply : Type 0 where
  said : Said → Reply
  part : Option ℕ → List ℕ → Reply
  value : FieldSaid → Reply
  penned : WriteOutcome → Reply

-- ---- what an answer tells

-- none stands for what an answer does not speak of
pub record Told : Type 0 where
  -- R21: the number of a refusal
  pub refusal : Option ℕ
  -- C5, C10: the version, by Open and Stage
  pub version : Option ℕ
  -- C7: how many bytes Feed took
  pub taken : Option ℕ
  -- C7, C8: the block, by Feed and Finish; where Feed tells a count and no block, that is More
  pub block : Option Report
  -- C8: the counts, by End
  pub end : Option Counts
  -- C11: whether a table waited
  pub waited : Option Bool
  -- C9, C13: the part, by Bytes and Subbytes
  pub part : Option (List ℕ)
  -- W1: the length of the block, by Write
  pub wrote : Option ℕ
  -- W1: the caller's buffer as Write leaves it
  pub buffer : Option (List ℕ)

-- what an answer tells that is not Write's
abbrev pub tells : Option ℕ → Option ℕ → Option ℕ → Option Report → Option Counts → Option Bool → Option (List ℕ) → Told
tells n v t b e w p =
    record { refusal = n; version = v; taken = t; block = b; end = e; waited = w; part = p; wrote = None; buffer = None }

-- V7: the number, where a field is refused
abbrev pub field_refusal : FieldSaid → Option ℕ
field_refusal (unsigned n) = None
field_refusal (signed z) = None
field_refusal (single b) = None
field_refusal (double b) = None
field_refusal do_not_use = None
field_refusal not_in_revision = None
field_refusal (field_refused n) = Some n

-- W1: the number, where Write is refused, and the length where it is not
abbrev pub write_refusal : WriteSaid → Option ℕ
write_refusal (wrote n) = None
write_refusal (write_refused n) = Some n

abbrev pub write_length : WriteSaid → Option ℕ
write_length (wrote n) = Some n
write_length (write_refused n) = None

abbrev pub tells_write : WriteOutcome → Told
tells_write o =
    record {
      refusal = write_refusal o.said;
      version = None;
      taken = None;
      block = None;
      end = None;
      waited = None;
      part = None;
      wrote = write_length o.said;
      buffer = Some o.buffer;
    }

abbrev pub told : Reply → Told
told (said (refused n)) = tells (Some n) None None None None None None
told (said (version v)) = tells None (Some v) None None None None None
told (said (took n r)) = tells None None (Some n) r None None None
told (said (found r)) = tells None None None (Some r) None None None
told (said (ended c)) = tells None None None None (Some c) None None
told (said (waited b)) = tells None None None None None (Some b) None
told (part n p) = tells n None None None None None (Some p)
told (value v) = tells (field_refusal v) None None None None None None
told (penned o) = tells_write o

-- the part that is handed back, empty where the call hands back none
abbrev pub part_of : Reply → List ℕ
part_of a = unwrap_or (told a).part []

-- ---- what a call does

-- one call: its answer, and the world that it leaves
pub record Step : Type 0 where
  pub answer : Reply
  pub world : World

-- an outcome, and the buffers after it
abbrev pub leaving : Outcome → List ℕ → List ℕ → List ℕ → Step
leaving o hold force wait =
    record { answer = said o.said; world = record { state = o.state; hold = hold; force = force; wait = wait } }

abbrev pub looked : Look → World → Reply
looked bytes w = part (bytes_refusal w.state w.hold) (bytes_of w.state w.hold)
looked (body b i) w = value (body_of w.state w.force b i)
looked (sub b k j) w = value (sub_of w.state w.force b k j)
looked (sub_bytes b k) w = part (sub_bytes_refusal w.state w.force b k) (sub_bytes_of w.state w.force b k)
looked (sub2 b k m j) w = value (sub2_of w.state w.force b k m j)
looked (range b k) w = value (range_of w.state w.force b k)
looked (range2 b k m) w = value (range2_of w.state w.force b k m)
looked (tow b) w = value (tow_of w.state b)
looked (wnc b) w = value (wnc_of w.state b)
looked (write d buffer) w = penned (write_of w.state w.force d buffer)

-- C2: which buffer a call may write; the others stay as they were
unfoldable pub step : Call → World → Step
step (open_run x) w = let o = open_of w.state x w.force w.wait in leaving o w.hold o.lent w.wait
step (feed piece) w = let o = feed_of w.state w.hold piece in leaving o o.lent w.force w.wait
step finish w = let o = finish_of w.state w.hold in leaving o o.lent w.force w.wait
step (table (stage t)) w = let o = stage_of w.state w.wait t in leaving o w.hold w.force o.lent
step (table withdraw) w = leaving (withdraw_of w.state) w.hold w.force w.wait
step (look l) w = record { answer = looked l w; world = w }

-- calls one after the other: the world they leave
unfoldable pub end : List Call → World → World
end [] w = w
end (c ∷ cs) w = end cs (step c w).world

-- a call with its answer, and calls one after the other, each with its answer
pub record Line : Type 0 where
  pub call : Call
  pub answer : Reply

infix 80 ◌⇒◌
abbrev pub ◌⇒◌ : Call → Reply → Line
c ⇒ a = record { call = c; answer = a }

unfoldable pub trace : List Call → World → List Line
trace [] w = []
trace (c ∷ cs) w = c ⇒ (step c w).answer ∷ trace cs (step c w).world
