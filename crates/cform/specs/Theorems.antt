-- Nothing is lost on the way to C: a state, settings, an answer, a field and what Write answers can be read back from the plain
-- structs.
-- Assumes nothing.
use Rattle.std.specs.Prelude.{ℕ, ◌<◌, ◌≡◌, Bool, true, false, cond, eqb, None, Some, Result}
use Rattle.refusal.specs.declared.Refusal.{Refusal}
use Rattle.record.specs.Answer.{FieldSaid, do_not_use, double, field_refused, not_in_revision, signed, single, unsigned}
use Rattle.reader.specs.declared.State.{State}
use Rattle.reader.specs.declared.Settings.{Settings}
use Rattle.runs.specs.declared.Fed.{Fed}
use Rattle.runs.specs.declared.Finished.{Finished}
use Rattle.reader.specs.Said.{Report, Said, refused, version, took, found, ended, waited}
use Rattle.tables.specs.Said.{said_version, said_withdrawn}
use Rattle.runs.specs.Said.{said_fed, said_finished}
use Rattle.writer.specs.Write.{WriteSaid, wrote, write_refused, written_says}
use Rattle.cform.specs.State.{counts_back, settings_c, settings_back, state_of, state_c}
use Rattle.cform.specs.Answer.{answer_c, field_c}
use Rattle.cform.specs.Draft.{written_c}
use Rattle.cform.specs.declared.CState.{CState}
use Rattle.cform.specs.declared.CSettings.{CSettings}
use Rattle.cform.specs.declared.CBlock.{CBlock}
use Rattle.cform.specs.declared.CAnswer.{CAnswer}
use Rattle.cform.specs.declared.CField.{CField}
use Rattle.cform.specs.declared.CWritten.{CWritten}

abbrev pub report_back : CBlock → Report
report_back b = record { place = b.place; number = b.number; revision = b.revision; size = b.length }

-- an answer by its kind; Feed's block comes with the count taken, Finish's without
abbrev pub answer_back : Bool → CAnswer → Said
answer_back finish a =
    cond (eqb a.kind 0) (refused a.refusal)
    (cond (eqb a.kind 1) (version a.version)
    (cond (eqb a.kind 2) (cond finish (found (report_back a.block)) (took a.taken (Some (report_back a.block))))
    (cond (eqb a.kind 3) (took a.taken None)
    (cond (eqb a.kind 4) (ended (counts_back a.end)) (waited (eqb a.waited 1))))))

-- a field's answer by its kind
abbrev pub field_back : CField → FieldSaid
field_back f =
    cond (eqb f.kind 0) (field_refused f.refusal)
    (cond (eqb f.kind 1) (unsigned f.number)
    (cond (eqb f.kind 2) (signed f.signed)
    (cond (eqb f.kind 3) (single f.bits)
    (cond (eqb f.kind 4) (double f.bits) (cond (eqb f.kind 5) do_not_use not_in_revision)))))

-- what Write answers: C's 0 is no refusal
abbrev pub written_back : CWritten → WriteSaid
written_back w = cond (eqb w.refusal 0) (wrote w.length) (write_refused w.refusal)

pub record NothingLost : Type 0 where
  -- the next call goes on with the state that this one left; a state stands for none exactly where its phase is over 2
  pub state : (t : State) → state_of (state_c t) ≡ Some t
  pub unknown : (s : CState) → 2 < s.phase → state_of s ≡ None
  pub only_over_2 : (s : CState) → state_of s ≡ None → 2 < s.phase
  -- any settings of the reader's, and any of C's, a bad ceiling too: it is for Open to refuse it
  pub settings : (x : Settings) → settings_back (settings_c x) ≡ x
  pub settings_of_c : (x : CSettings) → settings_c (settings_back x) ≡ x
  -- Open's and Stage's
  pub opened_or_staged : (a : Result ℕ Refusal) → answer_back false (answer_c (said_version a)) ≡ said_version a
  pub fed : (a : Result Fed Refusal) → answer_back false (answer_c (said_fed a)) ≡ said_fed a
  pub finished : (a : Result Finished Refusal) → answer_back true (answer_c (said_finished a)) ≡ said_finished a
  pub withdrawn : (a : Result Bool Refusal) → answer_back false (answer_c (said_withdrawn a)) ≡ said_withdrawn a
  pub fields : (a : FieldSaid) → field_back (field_c a) ≡ a
  pub written : (a : Result ℕ Refusal) → written_back (written_c (written_says a)) ≡ written_says a
