-- The test of one whole frame, and the points of F8 and R10.
-- Assumes nothing.
use Prim.Native.Nat.{ℕ, ◌+◌, ◌%◌}
use mathlib.Core.Path.{◌≡◌}
use mathlib.Core.Bool.{true, ◌&&◌}
use mathlib.Core.List.{List}
use lib.ListN.{length, get_or, take, drop}
use lib.Dec.{eqb}
use borrow.Author.Tests.{leb-true, eqb-true, le-leb, eq-eqb}
use Rattle.crc.specs.Crc.{crc_of}
use Rattle.frame.specs.Frame.{greatest_ceiling, sync_at, crc_at, length_at, allowed, ends_within, crc_right, frame_at, whole_frame}
use Rattle.frame.proofs.View.{allows}
use Rattle.wire.proofs.Tests.{both_left, both_right, both_true, never}
use Rattle.demands.specs.Refusals.{FrameStands, OneFrame, NoWholeFrame}
use Rattle.demands.proofs.Exact.{Tells}

stands : (top : ℕ) (w : List ℕ) (p : ℕ) → frame_at top w p ≡ true → FrameStands top w p
unfolding frame_at sync_at ends_within crc_right
stands top w p e =
    let a = sync_at w p in
    let b = allowed top (length_at w p) in
    let c = ends_within w p in
    let d = crc_right w p in
    let e₃ = both_left (a && b && c) d e in
    let e₂ = both_left (a && b) c e₃ in
    let e₁ = both_left a b e₂ in
    let f = allows top (length_at w p) (both_right a b e₂) in
    record {
      sync₀ = eqb-true (get_or w p 0) 0x24 (both_left (eqb (get_or w p 0) 0x24) (eqb (get_or w (p + 1) 0) 0x40) e₁);
      sync₁ = eqb-true (get_or w (p + 1) 0) 0x40 (both_right (eqb (get_or w p 0) 0x24) (eqb (get_or w (p + 1) 0) 0x40) e₁);
      multiple = f.by_four;
      eight = f.not_small;
      not_above = f.not_above;
      within = leb-true (p + length_at w p) (length w) (both_right (a && b) c e₃);
      crc = eqb-true (crc_at w p) (crc_of (drop (p + 4) (take (p + length_at w p) w))) (both_right (a && b && c) d e);
    }

is_frame : (top : ℕ) (w : List ℕ) (p : ℕ) → FrameStands top w p → frame_at top w p ≡ true
unfolding frame_at sync_at allowed ends_within crc_right
is_frame top w p f =
    both_true
    (both_true
    (both_true (both_true (eq-eqb (get_or w p 0) 0x24 f.sync₀) (eq-eqb (get_or w (p + 1) 0) 0x40 f.sync₁))
    (both_true (both_true (eq-eqb (length_at w p % 4) 0 f.multiple) (le-leb 8 (length_at w p) f.eight)) (le-leb (length_at w p) top f.not_above)))
    (le-leb (p + length_at w p) (length w) f.within))
    (eq-eqb (crc_at w p) (crc_of (drop (p + 4) (take (p + length_at w p) w))) f.crc)

is_whole : (b : List ℕ) → OneFrame b → whole_frame b ≡ true
unfolding whole_frame
is_whole b f = both_true (is_frame greatest_ceiling b 0 f.stands) (eq-eqb (length_at b 0) (length b) f.all)

pub one_frame : (b : List ℕ) → whole_frame b ≡ true → OneFrame b
unfolding whole_frame
one_frame b e =
    record {
      stands = stands greatest_ceiling b 0 (both_left (frame_at greatest_ceiling b 0) (eqb (length_at b 0) (length b)) e);
      all = eqb-true (length_at b 0) (length b) (both_right (frame_at greatest_ceiling b 0) (eqb (length_at b 0) (length b)) e);
    }

pub frame_tells : (b : List ℕ) → Tells (whole_frame b) (NoWholeFrame b)
frame_tells b = record { fine = λ e f. f (one_frame b e); holds = λ e f. never (is_whole b f) e }
