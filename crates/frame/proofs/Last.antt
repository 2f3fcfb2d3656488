-- The judge of the run's end, by what is decided already and by how many bytes are left.
-- Assumes nothing.
use mathlib.Core.Path.{◌≡◌, refl, ap, ap₂, ◌∙◌}
use mathlib.Core.List.{List}
use mathlib.Core.Bool.{Bool, cond}
use Prim.Native.Nat.{ℕ}
use lib.ListN.{length}
use lib.Dec.{ltb}
use Rattle.frame.specs.Judge.{judged, last_by, judged_last}
use Rattle.frame.specs.declared.Reason.TheVariants.{NoSync, FewLeft, PastEnd}
use Rattle.frame.specs.declared.Verdict.{Verdict}
use Rattle.frame.specs.declared.Verdict.TheVariants.{NoFrame, Frame, Undecided}

-- what is decided already stays, and the rest is told by how many bytes there are
pub last_ends : (c : ℕ) (v : List ℕ) {a b : Bool} → judged c v ≡ Undecided → ltb (length v) 2 ≡ a → ltb (length v) 8 ≡ b
    → judged_last c v ≡ NoFrame (cond a NoSync (cond b FewLeft PastEnd))
unfolding judged_last
last_ends c v u e f =
    ap (λ (x : Verdict). last_by x v) u ∙ ap₂ (λ (x y : Bool). NoFrame (cond x NoSync (cond y FewLeft PastEnd))) e f

pub last_same : (c : ℕ) (v : List ℕ) (x : Verdict) → (x ≡ Undecided → ⊥) → judged c v ≡ x → judged_last c v ≡ x
unfolding judged_last
last_same c v (NoFrame r) n e = ap (λ (x : Verdict). last_by x v) e
last_same c v (Frame n) h e = ap (λ (x : Verdict). last_by x v) e
last_same c v Undecided n e = absurd (n refl)
