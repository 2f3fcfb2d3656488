-- `feed::keep` meets its contract: two copies, or one.
-- Assumes nothing.
use mathlib.Core.Path.{ap, ◌∙◌}
use mathlib.Core.List.{List}
use Prim.Native.Nat.{ℕ, ◌-◌}
use native.Mathlib.Omega.{arith}
use lib.ListN.{drop}
use lib.Seq.{paste}
use Rattle.feed.proofs.Kept.{from_hold, from_piece}
use Rattle.feed.proofs.keep.Goals as goal

pub returns-then-p-n : goal.returns-then-p-n
returns-then-p-n c =
    let a = c.args in
    c.copy_in.ensures
    ∙ ap (λ (x : List ℕ). paste x (a.n - a.p) (drop 0 a.piece.now) (a.m - a.n)) c.move_down.ensures
    ∙ from_hold a.hold.now a.standing a.n a.piece.now a.p a.m c.requires.0 c.requires.1 c.requires.2 (omega arith)

pub returns-else-p-n : goal.returns-else-p-n
returns-else-p-n c =
    let a = c.args in
    c.copy_in-else-p-n.ensures
    ∙ from_piece a.hold.now a.standing a.n a.piece.now a.p a.m c.requires.0 c.requires.1 c.requires.2 (omega arith) (omega arith)
