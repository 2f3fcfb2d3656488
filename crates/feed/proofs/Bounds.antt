-- No more than 65,532 bytes are ever held.
-- Assumes nothing.
use mathlib.Core.Path.{◌≡◌, refl, ap, subst}
use mathlib.Core.Logic.{⊎_elim}
use mathlib.Core.List.{List, [], ◌∷◌, ◌++◌}
use Rattle.std.proofs.Common.{Option, None, Some}
use Prim.Native.Nat.{ℕ, zero, suc, ◌≤◌, ◌<◌}
use native.Mathlib.Omega.{arith}
use lib.ListN.{length, length-drop, length-append}
use Rattle.frame.specs.Judge.{judged}
use Rattle.frame.proofs.View.{waits_short}
use Rattle.scan.specs.Settle.{Settled, settle}
use Rattle.scan.specs.Feed.{Intake, unless_block, feed_by, feed_lit}
use Rattle.scan.proofs.Settling.{Stopped, settle_rest, settle_stopped}

module _ (c : ℕ) (low : c ≤ 65532) where
  left_short : (h : List ℕ) → (settle (judged c) h).standing ≡ None → length (settle (judged c) h).rest < 65532
  left_short h e =
      let v = (settle (judged c) h).rest in
      ⊎_elim (λ z. omega (arith, ap length z)) (λ q. omega (arith, waits_short c v q))
      (subst (λ (o : Option ℕ). Stopped (judged c) o (settle (judged c) h).rest) e (settle_stopped (judged c) h))

  held_by : (o : Option ℕ) (s : Settled) (next : Intake) → s.standing ≡ o → length s.rest ≤ 65532 → (s.standing ≡ None → length next.held ≤ 65532)
      → length (unless_block o s next).held ≤ 65532
  held_by (Some n) s next e l rec = l
  held_by None s next e l rec = rec e

  pub fed_held : (piece : List ℕ) (room : ℕ) (h : List ℕ) → length h ≤ 65532 → length (feed_lit c h piece room).held ≤ 65532
  unfolding feed_by
  fed_held [] room h l = omega (arith, ap length (settle_rest (judged c) h).is, length-drop (length (settle (judged c) h).passed) h)
  fed_held (b ∷ bs) zero h l = omega (arith, ap length (settle_rest (judged c) h).is, length-drop (length (settle (judged c) h).passed) h)
  fed_held (b ∷ bs) (suc room) h l =
      let s = settle (judged c) h in
      let r = settle_rest (judged c) h in
      held_by s.standing s (feed_lit c (s.rest ++ b ∷ []) bs room) refl
      (omega (arith, ap length r.is, length-drop (length s.passed) h))
      (λ e. fed_held bs room (s.rest ++ b ∷ []) (omega (arith, left_short h e, length-append s.rest (b ∷ []))))
