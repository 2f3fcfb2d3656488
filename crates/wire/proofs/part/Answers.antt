-- `wire::part` meets its contract: the slice is the part that stands there.
-- Assumes nothing.
use mathlib.Core.Path.{◌≡◌, ap, ◌∙◌}
use mathlib.Core.List.{List}
use Prim.Native.Nat.{ℕ, ◌+◌, ◌-◌, ◌≤◌}
use native.Mathlib.Omega.{arith}
use lib.ListN.{length, take, drop, length-drop}
use lib.Seq.{length-take-le}
use Rattle.wire.specs.Parts.{offset_by}
use Rattle.wire.proofs.part.Goals as goal

module _ (s : List ℕ) (at size : ℕ) (h : at + size ≤ length s) where
  same : take (at + size - at) (drop at s) ≡ take size (drop at s)
  same = let e : at + size - at ≡ size = omega arith in ap (λ (n : ℕ). take n (drop at s)) e

  long : length (take size (drop at s)) ≡ size
  long = let l : size ≤ length (drop at s) = rw length-drop (omega arith) in length-take-le size (drop at s) l

-- the kit adds the offset to the pointer from the left
stands : (p : ℕ × ℕ) (a : ℕ) → (p.0, a + p.1) ≡ offset_by p a
stands p a = ap (λ (n : ℕ). (p.0, n)) (omega arith)

pub returns : goal.returns
returns c =
    let a = c.args in
    let e = same a.s.now a.at a.size c.requires in
    record { result_value = (e, ap length e ∙ long a.s.now a.at a.size c.requires); ref_ptr_value = stands a.s.ref_ptr a.at }
