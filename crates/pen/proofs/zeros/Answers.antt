-- `pen::zeros` meets its contract: the part is filled.
-- Assumes nothing.
use mathlib.Core.Path.{ap, ◌∙◌}
use Prim.Native.Nat.{ℕ}
use native.Mathlib.Omega.{arith}
use lib.ListN.{replicate, length-replicate}
use Rattle.pen.proofs.Stores.{length_part, mid_stored}
use Rattle.pen.proofs.zeros.Goals as goal

pub returns : goal.returns
returns c =
    let a = c.args in
    let n = length-replicate {A = ℕ} a.n 0 in
    let long = length_part a.out.now a.at a.n c.requires in
    mid_stored a.out.now a.at _ _ (replicate a.n 0) (omega arith) (omega arith) (c.fill.ensures.after (λ y e. e) ∙ ap (λ (k : ℕ). replicate k 0) long)
