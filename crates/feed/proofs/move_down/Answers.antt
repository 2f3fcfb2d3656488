-- `feed::move_down` meets its contract. The invariant: j bytes have moved, and the rest stands as it stood.
-- Assumes nothing.
use mathlib.Core.Path.{◌≡◌, refl, sym, ap, ◌∙◌}
use mathlib.Core.List.{List}
use Prim.Native.Nat.{ℕ, ◌-◌, ◌+◌, min}
use native.Mathlib.Omega.{arith}
use lib.ListN.{length, drop, length-drop}
use lib.Seq.{paste, drop-drop}
use Rattle.copy.proofs.Pasting.{paste_long}
use Rattle.feed.proofs.Pasting.{paste_self, paste_behind, paste_on}
use Rattle.feed.proofs.move_down.Goals as goal
use Rattle.feed.proofs.move_down.Lts
use Rattle.feed.proofs.move_down.Reads
use Rattle.feed.proofs.move_down.Tie as tie

abbrev AtLoop : Type 0
AtLoop = Lts.At-loop tie.the-claims Reads.Pre Reads.Post goal.the-invariant-loop-moved goal.the-decreases-loop-moved

abbrev AfterMin : Type 0
AfterMin = Lts.After-min tie.the-claims Reads.Pre Reads.Post goal.the-invariant-loop-moved goal.the-decreases-loop-moved

pub returns-then-from-eq0 : goal.returns-then-from-eq0
returns-then-from-eq0 c =
    let a = c.args in
    paste_self a.hold.now a.k ∙ ap (λ (x : ℕ). paste a.hold.now 0 (drop x a.hold.now) a.k) (sym c.if-from-eq0.true)

pub loop-moved-init : goal.loop-moved-init
loop-moved-init c = (omega arith, refl)

long : (l : AtLoop) → length l.loop-moved.hold ≡ length l.args.hold.now
long l =
    let a = l.args in
    paste_long l.loop-moved.hold a.hold.now 0 a.hold.now a.from l.loop-moved.moved l.loop-moved.invariant.1 (omega arith) (omega arith)

-- how many bytes move in a turn
least : (m : AfterMin)
    → m.min-n.result ≡ min (m.args.k - m.loop-moved.moved) 1024
least m = m.min-n.ensures

pub move_some-requires : goal.move_some-requires
move_some-requires c =
    let n = least c.before.before in
    let l = long c.before.before.before.before in
    omega arith

pub overflow_add-moved : goal.overflow_add-moved
overflow_add-moved c = omega (arith, least c.before.before.before.before.before.before)

pub loop-moved-smaller : goal.loop-moved-smaller
loop-moved-smaller c =
    omega (arith, least c.before.before.before.before.before.before, c.loop-moved-test.true)

pub loop-moved-preserved : goal.loop-moved-preserved
loop-moved-preserved c =
    let l = c.loop-moved in
    let a = c.args in
    let h = a.hold.now in
    let n = c.min-n.result in
    let s = drop a.from a.hold.now in (
      omega (arith, least c.before.before.before.before.before.before),
      c.move_some.ensures
          ∙ ap (λ (x : List ℕ). paste x l.moved (drop (a.from + l.moved) x) n) l.invariant.1
          ∙ ap (λ (x : List ℕ). paste (paste h 0 s l.moved) l.moved x n)
          (paste_behind h s l.moved (a.from + l.moved) (omega (arith, length-drop a.from h)) (omega arith) ∙ sym (drop-drop l.moved a.from h))
          ∙ paste_on h s l.moved n (omega (arith, least c.before.before.before.before.before.before, length-drop a.from h)) (omega arith),
    )

pub shape_of-hold : goal.shape_of-hold
shape_of-hold c = long c.before

pub returns : goal.returns
returns c =
    let a = c.args in
    let l = c.loop-moved in
    let e : l.moved ≡ a.k = omega arith in
    l.invariant.1 ∙ ap (paste a.hold.now 0 (drop a.from a.hold.now)) e
