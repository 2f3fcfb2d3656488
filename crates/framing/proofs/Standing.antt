-- A frame stands at a place of a run exactly where it is judged to.
-- Assumes nothing.
use mathlib.Core.Path.{◌≡◌, sym, ap, ap₂, ◌∙◌}
use mathlib.Core.List.{List}
use mathlib.Core.Bool.{Bool, ◌&&◌}
use Prim.Native.Nat.{ℕ, ◌+◌, ◌-◌, ◌≤◌}
use native.Mathlib.Nat.{zero-add}
use native.Mathlib.Omega.{arith}
use lib.ListN.{length, get_or, take, drop, length-drop}
use lib.Dec.{leb, eqb}
use borrow.Author.Tests.{le-leb, lt-leb}
use Rattle.crc.specs.Crc.{crc_of}
use Rattle.wire.proofs.Laws.{little_drop}
use Rattle.frame.specs.Frame.{sync_at, crc_at, length_at, allowed, ends_within, crc_right, frame_at}
use Rattle.frame.specs.declared.Verdict.TheVariants.{Frame}
use Rattle.wire.proofs.Tests.{lt?}
use Rattle.frame.proofs.Cases.{byte0, byte, body}
use Rattle.frame.proofs.Standing.{front_judged, judged_front}
use Rattle.framing.specs.Theorems.{JudgedRight}

within_drop : (l n p : ℕ) → p ≤ n → leb (p + l) n ≡ leb (0 + l) (n - p)
within_drop l n p h =
    lt? n (p + l) (λ a. lt-leb (p + l) n a ∙ sym (lt-leb (0 + l) (n - p) (omega arith)))
    (λ a. le-leb (p + l) n a ∙ sym (le-leb (0 + l) (n - p) (omega arith)))

module _ (w : List ℕ) (p : ℕ) (l : p ≤ length w) where
  pub length_drops : length_at (drop p w) 0 ≡ length_at w p
  length_drops = little_drop 2 w p 6

  -- each test of a frame says at a place what it says at the front of the rest
  pub sync_drops : sync_at (drop p w) 0 ≡ sync_at w p
  unfolding sync_at
  sync_drops = ap₂ (λ (x y : ℕ). eqb x 0x24 && eqb y 0x40) (byte0 w p) (byte w p 1)

  pub ends_drops : ends_within (drop p w) 0 ≡ ends_within w p
  unfolding ends_within
  ends_drops = ap₂ (λ (x y : ℕ). leb (0 + x) y) length_drops (length-drop p w) ∙ sym (within_drop (length_at w p) (length w) p l)

  pub crc_drops : crc_right (drop p w) 0 ≡ crc_right w p
  unfolding crc_right
  crc_drops =
      let z : 0 + length_at (drop p w) 0 ≡ length_at w p = zero-add (length_at (drop p w) 0) ∙ length_drops in
      ap₂ (λ (x y : ℕ). eqb x y) (little_drop 2 w p 2)
      (ap (λ (x : ℕ). crc_of (drop 4 (take x (drop p w)))) z ∙ ap crc_of (body w p (length_at w p) l))

  -- a frame at a place is one at the front of the rest
  pub frame_drops : (c : ℕ) → frame_at c (drop p w) 0 ≡ frame_at c w p
  unfolding frame_at sync_at ends_within crc_right
  frame_drops c =
      let n = length_at w p in
      let z : 0 + length_at (drop p w) 0 ≡ length_at w p = zero-add (length_at (drop p w) 0) ∙ length_drops in
      let s : (eqb (get_or (drop p w) 0 0) 0x24 && eqb (get_or (drop p w) 1 0) 0x40) ≡ (eqb (get_or w p 0) 0x24 && eqb (get_or w (p + 1) 0) 0x40) =
      ap₂ (λ (x y : ℕ). eqb x 0x24 && eqb y 0x40) (byte0 w p) (byte w p 1) in
      let e : leb (0 + length_at (drop p w) 0) (length (drop p w)) ≡ leb (p + length_at w p) (length w) =
      ap₂ (λ (x y : ℕ). leb (0 + x) y) length_drops (length-drop p w) ∙ sym (within_drop (length_at w p) (length w) p l) in
      let k : eqb (crc_at (drop p w) 0) (crc_of (drop 4 (take (0 + length_at (drop p w) 0) (drop p w)))) ≡ eqb (crc_at w p) (crc_of (drop (p + 4) (take (p + length_at w p) w))) =
      ap₂ (λ (x y : ℕ). eqb x y) (little_drop 2 w p 2)
      (ap (λ (x : ℕ). crc_of (drop 4 (take x (drop p w)))) z ∙ ap crc_of (body w p (length_at w p) l)) in
      ap₂ (λ (x y : Bool). x && y) (ap₂ (λ (x y : Bool). x && y) (ap₂ (λ (x y : Bool). x && y) s (ap (allowed c) length_drops)) e) k

pub judged_right : (c : ℕ) → JudgedRight c
judged_right c =
    record {
      frame = λ w p l h.
          front_judged c (drop p w) (frame_drops w p (omega arith) c ∙ h) ∙ ap Frame (length_drops w p (omega arith));
      stands = λ w p n l h.
          let f = judged_front c (drop p w) n h in
          (sym (frame_drops w p (omega arith) c) ∙ f.0, f.1 ∙ length_drops w p (omega arith));
    }
