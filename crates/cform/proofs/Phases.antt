-- The state that C's stands for, by the number of its phase.
-- Assumes nothing.
use mathlib.Core.Path.{◌≡◌, sym, ap}
use mathlib.Core.Bool.{false}
use Rattle.std.proofs.Common.{Option, None, Some}
use Prim.Native.Nat.{ℕ, zero, suc, ◌<◌, ◌≤◌}
use native.Mathlib.Omega.{arith}
use borrow.Author.Tests.{ne_eqb}
use Rattle.reader.specs.declared.Phase.TheVariants.{Closed, Feeding, Finishing}
use Rattle.reader.specs.declared.State.{State}
use Rattle.reader.specs.State.{sound}
use Rattle.cform.specs.State.{phase_of, in_phase, state_of, state_c, back_c}
use Rattle.cform.specs.declared.CState.{CState}

module _ (s : CState) where
  pub closed_of : s.phase ≡ 0 → state_of s ≡ Some (in_phase s Closed)
  unfolding state_of phase_of
  closed_of e = rw e

  pub feeding-of : s.phase ≡ 1 → state_of s ≡ Some (in_phase s Feeding)
  unfolding state_of phase_of
  feeding-of e = rw e

  pub finishing-of : s.phase ≡ 2 → state_of s ≡ Some (in_phase s Finishing)
  unfolding state_of phase_of
  finishing-of e = rw e

  pub unknown-of : (s.phase ≡ 0 → ⊥) → (s.phase ≡ 1 → ⊥) → (s.phase ≡ 2 → ⊥) → state_of s ≡ None
  unfolding state_of phase_of
  unknown-of a b c = rw (ne_eqb s.phase 0 a, ne_eqb s.phase 1 b, ne_eqb s.phase 2 c)

  pub none_over : 2 < s.phase → state_of s ≡ None
  none_over h = unknown-of (λ e. omega arith) (λ e. omega arith) (λ e. omega arith)

  -- C's own state back, or the one that the call left
  module _ (next : State) where
    pub back_same : 2 < s.phase → s ≡ back_c s (state_of s) next
    back_same h = sym (ap (λ (o : Option State). back_c s o next) (none_over h))

    pub back_next : (n : ℕ) → s.phase ≡ n → n ≤ 2 → state_c next ≡ back_c s (state_of s) next
    back_next zero e h = sym (ap (λ (o : Option State). back_c s o next) (closed_of e))
    back_next (suc zero) e h = sym (ap (λ (o : Option State). back_c s o next) (feeding-of e))
    back_next (suc (suc zero)) e h = sym (ap (λ (o : Option State). back_c s o next) (finishing-of e))
    back_next (suc (suc (suc n))) e h = absurd (omega arith)

-- more held bytes than refusal 1 allows
pub too_many : (t : State) → t.run.held ≡ 65533 → sound t ≡ false
unfolding sound
too_many t e = rw e
