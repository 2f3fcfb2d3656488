-- An answer of the writer, as a number, and the buffer with it.
-- Assumes nothing.
use mathlib.Core.List.{List}
use mathlib.Core.Path.{◌≡◌, refl, ap, ◌∙◌}
use Prim.Native.Nat.{ℕ}
use Rattle.std.proofs.Common.{Result, Ok, Err}
use Rattle.std.specs.Result.{result_unwrap_or}
use Rattle.refusal.specs.declared.Refusal.{Refusal}
use Rattle.writer.specs.Write.{WriteOutcome, write_outcome, written_says}
use Rattle.benchface.specs.Written.{length_said}

said : (r : Result ℕ Refusal) → result_unwrap_or r 0 ≡ length_said (written_says r)
said (Ok n) = refl
said (Err x) = refl

module _ (r : Result ℕ Refusal) {after : List ℕ} {o : WriteOutcome} (e : write_outcome (written_says r) after ≡ o) where
  pub told_length : result_unwrap_or r 0 ≡ length_said o.said
  told_length = said r ∙ ap (λ (x : WriteOutcome). length_said x.said) e

  pub told_buffer : after ≡ o.buffer
  told_buffer = ap (λ (x : WriteOutcome). x.buffer) e
