-- D4: one input, one outcome: of every input, two outcomes that meet a call's contract are equal. Each statement has the very definition
-- that the contract cites: the answer, the new state and the lent bytes; the part handed back, its bytes and where it stands; a field's
-- answer; Write's answer and its buffer.
-- Assumes nothing.
use Rattle.std.specs.Prelude.{ℕ, ◌≡◌, List, Option, Result}
use Rattle.std.specs.Result.{result_unwrap_or}
use Rattle.refusal.specs.declared.Refusal.{Refusal}
use Rattle.wire.specs.Parts.{offset_by}
use Rattle.record.specs.Answer.{FieldSaid, Answers}
use Rattle.record.specs.Calls.{nowhere}
use Rattle.value.specs.declared.Value.{Value}
use Rattle.walk.specs.declared.Span.{Span}
use Rattle.reader.specs.Said.{Said, refusal_of}
use Rattle.tables.specs.Said.{said_version, said_withdrawn}
use Rattle.runs.specs.Said.{said_fed, said_finished}
use Rattle.runs.specs.Refusals.{bytes_refusal}
use Rattle.reader.specs.Outcome.{Outcome, outcome}
use Rattle.tables.specs.Calls.{open_of, stage_of, withdraw_of}
use Rattle.runs.specs.Calls.{feed_of, finish_of, bytes_of}
use Rattle.records.specs.Calls.{body_of, sub_of, sub_bytes_of, sub_place_of, sub_bytes_refusal, tow_of, wnc_of}
use Rattle.epochs.specs.Calls.{sub2_of, range_of, range2_of}
use Rattle.draft.specs.Draft.{Draft}
use Rattle.writer.specs.Write.{WriteOutcome, write_outcome, written_says}
use Rattle.writes.specs.Calls.{write_of}
use Rattle.reader.specs.declared.Settings.{Settings}
use Rattle.reader.specs.declared.State.{State}

-- two answers, states and buffers that are read as this outcome are one
abbrev pub One : {A : Type 0} → (A → Said) → Outcome → Type 0
One {A} said o = (a b : A) (s t : State) (l m : List ℕ) → outcome (said a) s l ≡ o → outcome (said b) t m ≡ o → ((a ≡ b) × (s ≡ t)) × (l ≡ m)

-- two parts of these bytes, at this pointer, are one; p below is where the hold, or the block that was given, stands
abbrev pub OnePart : List ℕ → ℕ × ℕ → Type 0
OnePart part at = (v w : List ℕ) (p q : ℕ × ℕ) → v ≡ part → p ≡ at → w ≡ part → q ≡ at → (v ≡ w) × (p ≡ q)

-- two answers of a place that say this are one
abbrev pub OnePlace : Option ℕ → Span → Type 0
OnePlace n at =
    (x y : Result Span Refusal) → refusal_of x ≡ n → result_unwrap_or x nowhere ≡ at → refusal_of y ≡ n → result_unwrap_or y nowhere ≡ at → x ≡ y

-- two answers that only tell whether a call is refused, and say this, are one
abbrev pub OneTold : Option ℕ → Type 0
OneTold n = (x y : Result Unit Refusal) → refusal_of x ≡ n → refusal_of y ≡ n → x ≡ y

-- two answers of a field that say this are one, its case too
abbrev pub OneField : FieldSaid → Type 0
OneField said = (a b : Result Value Refusal) → Answers a said → Answers b said → a ≡ b

-- two answers and buffers of Write that are read as this outcome are one
abbrev pub OneWrite : WriteOutcome → Type 0
OneWrite o = (a b : Result ℕ Refusal) (l m : List ℕ) → write_outcome (written_says a) l ≡ o → write_outcome (written_says b) m ≡ o → (a ≡ b) × (l ≡ m)

pub record OneOutcome : Type 0 where
  pub opens : (s : State) (x : Settings) (force wait : List ℕ) → One said_version (open_of s x force wait)
  pub feeds : (s : State) (hold piece : List ℕ) → One said_fed (feed_of s hold piece)
  pub finishes : (s : State) (hold : List ℕ) → One said_finished (finish_of s hold)
  pub stages : (s : State) (wait t : List ℕ) → One said_version (stage_of s wait t)
  pub withdraws : (s : State) → One said_withdrawn (withdraw_of s)
  pub bytes : (s : State) (hold : List ℕ) (p : ℕ × ℕ) → OnePart (bytes_of s hold) p
  pub bytes_refused : (s : State) (hold : List ℕ) → OneTold (bytes_refusal s hold)
  pub bodies : (s : State) (force b : List ℕ) (i : ℕ) → OneField (body_of s force b i)
  pub subs : (s : State) (force b : List ℕ) (k j : ℕ) → OneField (sub_of s force b k j)
  pub sub_bytes : (s : State) (force b : List ℕ) (p : ℕ × ℕ) (k : ℕ) → OnePart (sub_bytes_of s force b k) (offset_by p (sub_place_of s force b k).at)
  pub sub_bytes_refused : (s : State) (force b : List ℕ) (k : ℕ) → OneTold (sub_bytes_refusal s force b k)
  pub sub_places : (s : State) (force b : List ℕ) (k : ℕ) → OnePlace (sub_bytes_refusal s force b k) (sub_place_of s force b k)
  pub sub2s : (s : State) (force b : List ℕ) (k m j : ℕ) → OneField (sub2_of s force b k m j)
  pub ranges : (s : State) (force b : List ℕ) (k : ℕ) → OneField (range_of s force b k)
  pub range2s : (s : State) (force b : List ℕ) (k m : ℕ) → OneField (range2_of s force b k m)
  pub tows : (s : State) (b : List ℕ) → OneField (tow_of s b)
  pub wncs : (s : State) (b : List ℕ) → OneField (wnc_of s b)
  pub writes : (s : State) (force : List ℕ) (d : Draft) (buffer : List ℕ) → OneWrite (write_of s force d buffer)
