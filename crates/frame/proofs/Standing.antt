-- A frame stands at the front of a run exactly where it is judged to.
-- Assumes nothing.
use mathlib.Core.Path.{◌≡◌, refl, subst}
use mathlib.Core.List.{List}
use mathlib.Core.Bool.{true, ◌&&◌}
use Prim.Native.Nat.{ℕ, ◌+◌, ◌≤◌}
use native.Mathlib.Omega.{arith}
use lib.ListN.{length, get_or}
use lib.Dec.{leb, eqb}
use borrow.Author.Tests.{leb-true, eqb-true, le-leb, eq-eqb}
use Rattle.frame.specs.Frame.{sync_at, length_at, allowed, ends_within, crc_right, frame_at}
use Rattle.frame.specs.Judge.{judged}
use Rattle.frame.specs.declared.Verdict.{Verdict}
use Rattle.frame.specs.declared.Verdict.TheVariants.{NoFrame, Frame, Undecided}
use Rattle.wire.proofs.Tests.{both_left, both_right, both_true}
use Rattle.frame.proofs.Cases.{good}
use Rattle.frame.proofs.View.{allows, View, waits_head, waits_body, at_sync0, at_sync1, at_length, at_bad, at_good, view}

pub front_judged : (c : ℕ) (v : List ℕ) → frame_at c v 0 ≡ true → judged c v ≡ Frame (length_at v 0)
unfolding frame_at sync_at ends_within
front_judged c v h =
    let l = length_at v 0 in
    let s = eqb (get_or v 0 0) 0x24 && eqb (get_or v 1 0) 0x40 in
    let a = allowed c (length_at v 0) in
    let w = leb (0 + length_at v 0) (length v) in
    let h3 = both_left (s && a && w) (crc_right v 0) h in
    let h2 = both_left (s && a) w h3 in
    let h1 = both_left s a h2 in
    let ok = both_right s a h2 in
    let n : 0 + length_at v 0 ≤ length v = leb-true (0 + length_at v 0) (length v) (both_right (s && a) w h3) in
    let b = (allows c (length_at v 0) ok).not_small in
    good c v (omega arith) (eqb-true (get_or v 0 0) 0x24 (both_left (eqb (get_or v 0 0) 0x24) (eqb (get_or v 1 0) 0x40) h1))
    (eqb-true (get_or v 1 0) 0x40 (both_right (eqb (get_or v 0 0) 0x24) (eqb (get_or v 1 0) 0x40) h1)) (omega arith) ok (omega arith)
    (both_right (s && a && w) (crc_right v 0) h)

abbrev FrontIf : ℕ → List ℕ → Verdict → Type 0
FrontIf c v (NoFrame r) = Unit {0}
FrontIf c v (Frame n) = (frame_at c v 0 ≡ true) × (n ≡ length_at v 0)
FrontIf c v Undecided = Unit {0}

front_of : (c : ℕ) (v : List ℕ) {x : Verdict} → View c v x → FrontIf c v x
unfolding frame_at sync_at ends_within
front_of c v (waits_head h f s) = tt
front_of c v (waits_body h a l) = tt
front_of c v (at_sync0 l a) = tt
front_of c v (at_sync1 l a b) = tt
front_of c v (at_length h a) = tt
front_of c v (at_bad h a l q) = tt
front_of c v (at_good h a l q) = (
  both_true
      (both_true (both_true (both_true (eq-eqb (get_or v 0 0) 0x24 h.first) (eq-eqb (get_or v 1 0) 0x40 h.second)) a)
      (le-leb (0 + length_at v 0) (length v) (omega arith)))
      q,
  refl,
)

pub judged_front : (c : ℕ) (v : List ℕ) (n : ℕ) → judged c v ≡ Frame n → (frame_at c v 0 ≡ true) × (n ≡ length_at v 0)
judged_front c v n e = subst (FrontIf c v) e (front_of c v (view c v))
