-- Held bytes that give a block: a scan of them with nothing behind says it.
-- Assumes nothing.
use mathlib.Core.Path.{◌≡◌, refl, ap, ◌∙◌}
use mathlib.Core.List.{List, []}
use Rattle.std.proofs.Common.{Option, None, Some}
use Prim.Native.Nat.{ℕ}
use native.Mathlib.Omega.{arith}
use lib.ListN.{length}
use lib.Dec.{ltb}
use borrow.Author.Tests.{lt-ltb}
use Rattle.frame.specs.Judge.{judged}
use Rattle.scan.specs.Settle.{settle}
use Rattle.scan.specs.Feed.{feed_by, feed_lit, size}
use Rattle.scan.specs.Passed.{scanned_of}
use Rattle.scan.specs.declared.Scanned.{Scanned}
use Rattle.runs.specs.Refusals.{is_some}
use Rattle.runs.proofs.Feeding.{WholeIf, fed_whole}

has_by : (o : Option ℕ) (v : List ℕ) → WholeIf o v → ltb 0 (size o) ≡ is_some o
has_by None v w = refl
has_by (Some n) v w = lt-ltb 0 n (omega (arith, w.eight))

-- a length over 0 says that one stands
pub gives : (c : ℕ) (h : List ℕ) (x : Scanned) → x ≡ scanned_of (feed_lit c h [] (length {A = ℕ} [])) → ltb 0 x.block ≡ is_some (settle (judged c) h).standing
unfolding feed_by
gives c h x e = ap (λ (y : Scanned). ltb 0 y.block) e ∙ has_by (settle (judged c) h).standing (settle (judged c) h).rest (fed_whole c h [] 0)
