-- `frame::crc_between` meets its contract: the bytes lie in the first slice, in both or in the second.
-- Assumes nothing.
use mathlib.Core.Path.{ap, ap₂, ◌∙◌}
use mathlib.Core.List.{◌++◌}
use Prim.Native.Nat.{ℕ, ◌-◌}
use native.Mathlib.Omega.{arith}
use lib.ListN.{take, drop}
use Rattle.crc.specs.Crc.{crc_of, crc_from}
use Rattle.frame.proofs.Parts.{between}
use Rattle.frame.proofs.crc_between.Goals as goal

pub returns : goal.returns
unfolding crc_from crc_of
returns c =
    let g = c.args in
    c.update.ensures
    ∙ ap₂ (λ (x y : ℕ). crc_of (take (y - x) (drop x g.a.now) ++ take (g.n - y - (4 - x)) (drop (4 - x) g.b.now)))
    c.min-i.ensures c.min-e.ensures
    ∙ ap crc_of (between g.a.now g.b.now g.n (omega arith) (omega arith))
