-- What was put into the plain structs is read back: case by case, by computation.
-- Assumes nothing.
use mathlib.Core.Path.{◌≡◌, refl, sym, ap, ◌∙◌}
use Rattle.std.specs.Prelude.{option_map}
use Rattle.std.proofs.Common.{Bool, true, false, Option, None, Some, Result, Ok, Err}
use Rattle.std.proofs.lemmas.Option.{none-some}
use Prim.Native.Nat.{ℕ, zero, suc, ◌<◌}
use native.Mathlib.Omega.{arith}
use Rattle.record.specs.Answer.{FieldSaid, do_not_use, double, field_refused, not_in_revision, signed, single, unsigned}
use Rattle.reader.specs.declared.Phase.{Phase}
use Rattle.reader.specs.declared.Phase.TheVariants.{Closed, Feeding, Finishing}
use Rattle.reader.specs.declared.State.{State}
use Rattle.runs.specs.declared.Fed.{Fed}
use Rattle.runs.specs.declared.Finished.{Finished}
use Rattle.runs.specs.declared.Finished.TheVariants as finished
use Rattle.writer.specs.Write.{write_refused, written_says}
use Rattle.refusal.specs.Numbers.{number_for}
use Rattle.refusal.specs.declared.Refusal.{Refusal}
use Rattle.refusal.specs.declared.Refusal.TheVariants.{BadBuffer, OutOfTurn, RunFull, BadTable, NoTable, NoRow, TooShort, BadSubBlocks, NoSuchField, NotOneFrame, BadValues, NoRoom, BadCeiling}
use Rattle.tables.specs.Said.{said_version, said_withdrawn}
use Rattle.runs.specs.Said.{said_fed, said_finished}
use Rattle.reader.specs.Said.{Report, report_of, took}
use Rattle.reader.specs.State.{phase_number}
use Rattle.cform.specs.State.{phase_of, in_phase_if_any, state_of, state_c}
use Rattle.cform.specs.Answer.{answer_c, field_c}
use Rattle.cform.specs.Draft.{written_c}
use Rattle.cform.specs.Theorems.{answer_back, field_back, written_back, NothingLost}
use Rattle.cform.specs.declared.CState.{CState}
use Rattle.cform.proofs.Phases.{none_over, closed_of, feeding-of, finishing-of}

phase_back : (p : Phase) → phase_of (phase_number p) ≡ Some p
unfolding phase_of
phase_back Closed = refl
phase_back Feeding = refl
phase_back Finishing = refl

state-back : (t : State) → state_of (state_c t) ≡ Some t
unfolding state_of
state-back t = ap (in_phase_if_any (state_c t)) (phase_back t.run.phase)

by_number : (s : CState) (n : ℕ) → s.phase ≡ n → state_of s ≡ None → 2 < n
by_number s zero e h = absurd (none-some _ (sym h ∙ closed_of s e))
by_number s (suc zero) e h = absurd (none-some _ (sym h ∙ feeding-of s e))
by_number s (suc (suc zero)) e h = absurd (none-some _ (sym h ∙ finishing-of s e))
by_number s (suc (suc (suc n))) e h = omega arith

version_back : (a : Result ℕ Refusal) → answer_back false (answer_c (said_version a)) ≡ said_version a
version_back (Ok v) = refl
version_back (Err x) = refl

took_back : (n : ℕ) (o : Option Report) → answer_back false (answer_c (took n o)) ≡ took n o
took_back n (Some b) = refl
took_back n None = refl

fed_back : (a : Result Fed Refusal) → answer_back false (answer_c (said_fed a)) ≡ said_fed a
fed_back (Ok f) = took_back f.taken (option_map report_of f.block)
fed_back (Err x) = refl

finished_back : (a : Result Finished Refusal) → answer_back true (answer_c (said_finished a)) ≡ said_finished a
finished_back (Ok (finished.Block b)) = refl
finished_back (Ok (finished.End c)) = refl
finished_back (Err x) = refl

withdrawn_back : (a : Result Bool Refusal) → answer_back false (answer_c (said_withdrawn a)) ≡ said_withdrawn a
withdrawn_back (Ok true) = refl
withdrawn_back (Ok false) = refl
withdrawn_back (Err x) = refl

field_back_lem : (a : FieldSaid) → field_back (field_c a) ≡ a
field_back_lem (unsigned n) = refl
field_back_lem (signed z) = refl
field_back_lem (single b) = refl
field_back_lem (double b) = refl
field_back_lem do_not_use = refl
field_back_lem not_in_revision = refl
field_back_lem (field_refused n) = refl

-- no refusal has the number 0
refusal_back_lem : (x : Refusal) → written_back (written_c (write_refused (number_for x))) ≡ write_refused (number_for x)
refusal_back_lem BadBuffer = refl
refusal_back_lem OutOfTurn = refl
refusal_back_lem RunFull = refl
refusal_back_lem BadTable = refl
refusal_back_lem NoTable = refl
refusal_back_lem NoRow = refl
refusal_back_lem TooShort = refl
refusal_back_lem BadSubBlocks = refl
refusal_back_lem NoSuchField = refl
refusal_back_lem NotOneFrame = refl
refusal_back_lem BadValues = refl
refusal_back_lem NoRoom = refl
refusal_back_lem BadCeiling = refl

written_back_lem : (a : Result ℕ Refusal) → written_back (written_c (written_says a)) ≡ written_says a
written_back_lem (Ok n) = refl
written_back_lem (Err x) = refusal_back_lem x

pub nothing_lost : NothingLost
nothing_lost =
    record {
      state = state-back;
      unknown = none_over;
      only_over_2 = λ s. by_number s s.phase refl;
      settings = λ x. refl;
      settings_of_c = λ x. refl;
      opened_or_staged = version_back;
      fed = fed_back;
      finished = finished_back;
      withdrawn = withdrawn_back;
      fields = field_back_lem;
      written = written_back_lem;
    }
