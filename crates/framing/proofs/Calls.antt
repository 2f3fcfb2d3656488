-- One call of feed: after More nothing is left to decide, and no fewer bytes give the block.
-- Assumes nothing.
use mathlib.Core.Path.{◌≡◌, refl, ap, ◌∙◌, subst}
use mathlib.Core.Logic.{⊎_elim}
use mathlib.Core.List.{List, [], ◌∷◌, ◌++◌}
use Rattle.std.proofs.Common.{Option, None, Some}
use Prim.Native.Nat.{ℕ, zero, suc, min, ◌<◌}
use native.Mathlib.Omega.{arith}
use lib.ListN.{length, take}
use Rattle.frame.specs.Judge.{judged}
use Rattle.frame.specs.declared.Verdict.{Verdict}
use Rattle.scan.specs.Settle.{settle}
use Rattle.scan.specs.Feed.{Intake, unless_block, feed_by, feed_lit}
use Rattle.scan.proofs.Stable.{judging}
use Rattle.scan.proofs.Settling.{Stopped}
use Rattle.scan.proofs.Calls.{fed_holds, Took, fed_took, fed_stopped}
use Rattle.framing.specs.Theorems.{MoreDecidesAll, BlockDecidesNoMore}

module _ (judge : List ℕ → Verdict) where
  abbrev Least : List ℕ → List ℕ → ℕ → Intake → Type 0
  Least h piece room f = (t : ℕ) → t < f.taken → (feed_by judge h (take t piece) room).standing ≡ None

  least_none : (h : List ℕ) (b : ℕ) (bs : List ℕ) (room t : ℕ) (next : Intake) → (settle judge h).standing ≡ None
      → Least ((settle judge h).rest ++ b ∷ []) bs room next → t < suc next.taken → (feed_by judge h (take t (b ∷ bs)) (suc room)).standing ≡ None
  unfolding feed_by
  least_none h b bs room zero next e rec l = e
  least_none h b bs room (suc t) next e rec l =
      ap (λ (o : Option ℕ). (unless_block o (settle judge h) (feed_by judge ((settle judge h).rest ++ b ∷ []) (take t bs) room)).standing) e ∙ rec t (omega arith)

  least_by : (o : Option ℕ) (h : List ℕ) (b : ℕ) (bs : List ℕ) (room : ℕ) (next : Intake) → (settle judge h).standing ≡ o
      → Least ((settle judge h).rest ++ b ∷ []) bs room next → Least h (b ∷ bs) (suc room) (unless_block o (settle judge h) next)
  least_by (Some n) h b bs room next e rec t l = let f : ⊥ = omega arith in absurd f
  least_by None h b bs room next e rec t l = least_none h b bs room t next e rec l

  fed_least : (piece : List ℕ) (room : ℕ) (h : List ℕ) → Least h piece room (feed_by judge h piece room)
  unfolding feed_by
  fed_least [] room h = λ t l. let f : ⊥ = omega arith in absurd f
  fed_least (b ∷ bs) zero h = λ t l. let f : ⊥ = omega arith in absurd f
  fed_least (b ∷ bs) (suc room) h =
      least_by (settle judge h).standing h b bs room (feed_by judge ((settle judge h).rest ++ b ∷ []) bs room) refl (fed_least bs room ((settle judge h).rest ++ b ∷ []))

-- ---- the theorems on one call

module _ (c : ℕ) where
  stopped : (h piece : List ℕ) (room : ℕ) {o : Option ℕ} → (feed_lit c h piece room).standing ≡ o → Stopped (judged c) o (feed_lit c h piece room).held
  stopped h piece room e = subst (λ (o : Option ℕ). Stopped (judged c) o (feed_lit c h piece room).held) e (fed_stopped (judged c) piece room h)

  pub more_decides_all : MoreDecidesAll c
  more_decides_all h piece room e = (
    subst (λ (o : Option ℕ). Took o (feed_lit c h piece room).taken (min room (length piece))) e (fed_took (judged c) piece room h),
    ⊎_elim (λ z. ap (judged c) z ∙ (judging c).empty) (λ q. q) (stopped h piece room e),
  )

  pub block_decides_no_more : BlockDecidesNoMore c
  block_decides_no_more =
      record {
        stands = λ h piece room n e. stopped h piece room e;
        held = λ h piece room. fed_holds (judged c) piece room h;
        least = λ h piece room t l. fed_least (judged c) piece room h t l;
      }
