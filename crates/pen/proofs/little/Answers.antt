-- `pen::little` meets its contract. The invariant: what is stored and what is left give the whole.
-- Assumes nothing.
use native.Mathlib.Omega.{arith}
use Rattle.pen.proofs.Stores.{length_little, length_part, mid_stored, little_more, little_all}
use Rattle.pen.proofs.little.Goals as goal

pub loop-byte-preserved : goal.loop-byte-preserved
loop-byte-preserved c =
    let a = c.args in
    little_more _ _ _ _ _ c.loop-byte.invariant (omega (arith, length_part a.out.now a.at a.size c.requires)) (omega arith)

pub returns : goal.returns
returns c =
    let a = c.args in
    let n = length_little a.size a.x in
    mid_stored a.out.now a.at _ _ _ (omega arith) (omega arith)
    (little_all _ _ _ _ _ c.loop-byte.invariant (omega (arith, length_part a.out.now a.at a.size c.requires)) (omega arith))
