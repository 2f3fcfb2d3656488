-- For callers: what the check's answer says of the table.
-- Assumes nothing.
use mathlib.Core.Bool.{Bool, true, false, cond}
use mathlib.Core.List.{List}
use mathlib.Core.Path.{◌≡◌, refl, sym, ap, ◌∙◌}
use Prim.Native.Nat.{ℕ}
use native.Mathlib.Omega.{arith}
use Rattle.std.proofs.Common.{Option, Some, None}
use Rattle.table.specs.Decode.{decode}
use Rattle.table.specs.Rules.{table_ok}
use Rattle.table.specs.Answer.{check_version, check_refused, check_says, check_of}

passes_by : (ok : Bool) (v w : ℕ) → check_version w ≡ cond ok (check_version v) (check_refused 4) → (ok ≡ true) × (w ≡ v)
passes_by true v w e = (refl, cc)
passes_by false v w e = let z : ◌≡◌ {A = ℕ} 0 1 = cc in absurd (omega arith)

breaks_by : (ok : Bool) (v : ℕ) → check_refused 4 ≡ cond ok (check_version v) (check_refused 4) → ok ≡ false
breaks_by false v e = refl
breaks_by true v e = let z : ◌≡◌ {A = ℕ} 0 1 = cc in absurd (omega arith)

module _ (t : List ℕ) {a : Option ℕ} (e : check_says a ≡ check_of t) where
  pub version_passes : {w : ℕ} → a ≡ Some w → (table_ok t ≡ true) × (w ≡ (decode t).version)
  unfolding check_of
  version_passes {w} g = passes_by (table_ok t) (decode t).version w (sym (ap check_says g) ∙ e)

  pub broken_breaks : a ≡ None → table_ok t ≡ false
  unfolding check_of
  broken_breaks g = breaks_by (table_ok t) (decode t).version (sym (ap check_says g) ∙ e)
