-- What each exported call answers and leaves: the reader's outcome as C has it, and refusal 1 for a state whose phase is none.
-- Assumes nothing.
use Rattle.std.specs.Prelude.{ℕ, List, [], length, take, drop, Option, None, Some}
use Rattle.record.specs.Answer.{FieldSaid, field_refused}
use Rattle.reader.specs.declared.State.{State}
use Rattle.reader.specs.Said.{refused}
use Rattle.runs.specs.Refusals.{bytes_refusal}
use Rattle.reader.specs.Outcome.{Outcome}
use Rattle.tables.specs.Calls.{open_of, stage_of, withdraw_of}
use Rattle.runs.specs.Calls.{feed_of, finish_of, bytes_of}
use Rattle.records.specs.Calls.{body_of, sub_of, sub_bytes_of, sub_place_of, sub_bytes_refusal, tow_of, wnc_of}
use Rattle.epochs.specs.Calls.{sub2_of, range_of, range2_of}
use Rattle.draft.specs.Draft.{Draft}
use Rattle.writer.specs.Write.{WriteOutcome, write_refused}
use Rattle.writes.specs.Calls.{write_of}
use Rattle.cform.specs.declared.CState.{CState}
use Rattle.cform.specs.declared.CSettings.{CSettings}
use Rattle.cform.specs.declared.CReply.{CReply}
use Rattle.cform.specs.declared.CField.{CField}
use Rattle.cform.specs.declared.CPart.{CPart}
use Rattle.cform.specs.declared.CWritten.{CWritten}
use Rattle.cform.specs.State.{settings_back, state_of, state_c}
use Rattle.cform.specs.Answer.{reply_c, field_c, part_c}
use Rattle.cform.specs.Draft.{written_c}

-- the reply, and the buffer that the call may write
pub record Left : Type 0 where
  pub reply : CReply
  pub lent : List ℕ

abbrev pub left : CReply → List ℕ → Left
left r l = record { reply = r; lent = l }

-- ---- the calls that go on with the state

-- a phase that is none: refused with 1, and then R21 holds as of any refusal
abbrev pub goes_on : (State → Outcome) → CState → List ℕ → Option State → Left
goes_on call s lent None = left (reply_c (refused 1) s) lent
goes_on call s lent (Some t) = left (reply_c (call t).said (state_c (call t).state)) (call t).lent

-- C17: with the settings that C gave, whatever they are
unfoldable pub open_c : CState → CSettings → List ℕ → List ℕ → Left
open_c s x force wait = goes_on (λ t. open_of t (settings_back x) force wait) s force (state_of s)

unfoldable pub feed_c : CState → List ℕ → List ℕ → Left
feed_c s hold piece = goes_on (λ t. feed_of t hold piece) s hold (state_of s)

unfoldable pub finish_c : CState → List ℕ → Left
finish_c s hold = goes_on (λ t. finish_of t hold) s hold (state_of s)

unfoldable pub stage_c : CState → List ℕ → List ℕ → Left
stage_c s wait table = goes_on (λ t. stage_of t wait table) s wait (state_of s)

-- C3: it is lent nothing
unfoldable pub withdraw_c : CState → Left
withdraw_c s = goes_on withdraw_of s [] (state_of s)

-- ---- fields

abbrev pub tells_field : (State → FieldSaid) → Option State → CField
tells_field call None = field_c (field_refused 1)
tells_field call (Some t) = field_c (call t)

unfoldable pub body_c : CState → List ℕ → List ℕ → ℕ → CField
body_c s force block i = tells_field (λ t. body_of t force block i) (state_of s)

unfoldable pub sub_c : CState → List ℕ → List ℕ → ℕ → ℕ → CField
sub_c s force block k j = tells_field (λ t. sub_of t force block k j) (state_of s)

unfoldable pub sub2_c : CState → List ℕ → List ℕ → ℕ → ℕ → ℕ → CField
sub2_c s force block k m j = tells_field (λ t. sub2_of t force block k m j) (state_of s)

unfoldable pub range_c : CState → List ℕ → List ℕ → ℕ → CField
range_c s force block k = tells_field (λ t. range_of t force block k) (state_of s)

unfoldable pub range2_c : CState → List ℕ → List ℕ → ℕ → ℕ → CField
range2_c s force block k m = tells_field (λ t. range2_of t force block k m) (state_of s)

unfoldable pub tow_c : CState → List ℕ → CField
tow_c s block = tells_field (λ t. tow_of t block) (state_of s)

unfoldable pub wnc_c : CState → List ℕ → CField
wnc_c s block = tells_field (λ t. wnc_of t block) (state_of s)

-- ---- parts

-- the bytes of a part of a buffer
abbrev pub cut : CPart → List ℕ → List ℕ
cut p buffer = take p.length (drop p.offset buffer)

-- the part, and the bytes in it
pub record Handing : Type 0 where
  pub part : CPart
  pub bytes : List ℕ

abbrev pub handing : CPart → List ℕ → Handing
handing p buffer = record { part = p; bytes = cut p buffer }

-- a call that hands back so many bytes from an offset, or is refused
abbrev pub hands : (State → Option ℕ) → (State → ℕ) → (State → List ℕ) → Option State → Handing
hands refusal offset bytes None = record { part = part_c (Some 1) 0 0; bytes = [] }
hands refusal offset bytes (Some t) = record { part = part_c (refusal t) (offset t) (length (bytes t)); bytes = bytes t }

-- C9: the part starts where the hold starts
unfoldable pub bytes_c : CState → List ℕ → Handing
bytes_c s hold = hands (λ t. bytes_refusal t hold) (λ t. 0) (λ t. bytes_of t hold) (state_of s)

-- C13: the part starts where the sub-block stands
unfoldable pub sub_bytes_c : CState → List ℕ → List ℕ → ℕ → Handing
sub_bytes_c s force block k =
    hands (λ t. sub_bytes_refusal t force block k) (λ t. (sub_place_of t force block k).at) (λ t. sub_bytes_of t force block k) (state_of s)

-- ---- a block that is made

-- the answer, and the buffer that Write may write
pub record Making : Type 0 where
  pub written : CWritten
  pub buffer : List ℕ

abbrev pub making : CWritten → List ℕ → Making
making w b = record { written = w; buffer = b }

abbrev pub tells_written : (State → WriteOutcome) → List ℕ → Option State → Making
tells_written call buffer None = making (written_c (write_refused 1)) buffer
tells_written call buffer (Some t) = making (written_c (call t).said) (call t).buffer

-- W1
unfoldable pub write_c : CState → List ℕ → Draft → List ℕ → Making
write_c s force d buffer = tells_written (λ t. write_of t force d buffer) buffer (state_of s)
