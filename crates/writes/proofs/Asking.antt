-- Write, refused by 1, 5 or 4, or not.
-- Assumes nothing.
use mathlib.Core.List.{List}
use Rattle.std.proofs.Common.{Option, None, Some}
use mathlib.Core.Path.{◌≡◌, sym, ap, ◌∙◌}
use Prim.Native.Nat.{ℕ}
use Rattle.table.specs.Decode.{decode}
use Rattle.draft.specs.Draft.{Draft}
use Rattle.writer.specs.Write.{WriteOutcome, refuses_write, written_of}
use Rattle.records.specs.Calls.{table_in_force, ask_refusal}
use Rattle.reader.specs.State.{ceiling_of}
use Rattle.reader.specs.declared.State.{State}
use Rattle.writes.specs.Calls.{written_unless, write_of}

module _ (s : State) (force : List ℕ) (d : Draft) (buffer : List ℕ) where
  by : {o : Option ℕ} → ask_refusal s force ≡ o → write_of s force d buffer ≡ written_unless o buffer (written_of (ceiling_of s) (decode (table_in_force s force)) d buffer)
  unfolding write_of
  by e = ap (λ (x : Option ℕ). written_unless x buffer (written_of (ceiling_of s) (decode (table_in_force s force)) d buffer)) e

  pub write_refused_lem : {n : ℕ} → ask_refusal s force ≡ Some n → refuses_write n buffer ≡ write_of s force d buffer
  write_refused_lem e = sym (by e)

  pub write_asked : ask_refusal s force ≡ None → {o : WriteOutcome} → o ≡ written_of (ceiling_of s) (decode (table_in_force s force)) d buffer → o ≡ write_of s force d buffer
  write_asked e g = g ∙ sym (by e)
