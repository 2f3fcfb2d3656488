-- `feed::move_some` meets its contract: what goes in is what came out.
-- Assumes nothing.
use mathlib.Core.Path.{ap, ◌∙◌}
use native.Mathlib.Omega.{arith}
use lib.ListN.{take, drop, length-drop}
use Rattle.feed.proofs.Pasting.{paste_same, paste_front}
use Rattle.feed.proofs.move_some.Goals as goal

pub returns : goal.returns
returns c =
    let a = c.args in
    let s = drop a.from a.hold.now in
    c.copy_in-2.ensures
    ∙ paste_same a.hold.now a.to (drop 0 c.copy_in.new.out) (drop a.from a.hold.now) a.k
    (ap (take a.k) c.copy_in.ensures ∙ paste_front a.buf.now (drop a.from a.hold.now) a.k (omega (arith, length-drop a.from a.hold.now)))
