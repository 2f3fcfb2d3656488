-- The second-level sub-blocks of a first-level one, by their number, and where they end.
-- Assumes nothing.
use mathlib.Core.List.{List}
use Rattle.std.proofs.Common.{None, Some}
use mathlib.Core.Path.{◌≡◌, ◌∙◌}
use Prim.Native.Nat.{ℕ, suc, ◌+◌, ◌*◌, ◌<◌, ◌≤◌}
use native.Mathlib.Nat.{mul-le-mul_right, suc-mul, zero-add}
use native.Mathlib.Omega.{arith}
use lib.ListN.{length}
use Rattle.table.specs.Lists.{pick}
use Rattle.table.specs.declared.Shape.{Shape}
use Rattle.table.proofs.Lists.{pick_in, pick_out}
use Rattle.walk.specs.declared.Nest.{Nest}
use Rattle.walk.specs.Walk.{nest_end, second_at, seconds}
use Rattle.block.specs.Block.{SubFine}

-- those nested in a first-level one, by their number
pub second_in : (n : Nest) (m : ℕ) → m < n.count → pick (seconds n) m ≡ Some (second_at n m)
unfolding seconds
second_in n m h = pick_in (second_at n) 0 n.count m h ∙ rw (zero-add m)

pub second_out : (n : Nest) (m : ℕ) → n.count ≤ m → pick (seconds n) m ≡ None
unfolding seconds
second_out n m h = pick_out (second_at n) 0 n.count m h

-- each ends by where they all end
pub second_ends : (n : Nest) (m : ℕ) → m < n.count → n.first.at + n.first.size + m * n.size + n.size ≤ nest_end n
second_ends n m h =
    let v : suc m * n.size ≤ n.count * n.size = mul-le-mul_right n.size h in
    let w = suc-mul m n.size in
    omega arith
