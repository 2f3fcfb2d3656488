-- `judged` case by case, and what is read at a place of a run, read of the rest from there.
-- Assumes nothing.
use mathlib.Core.Path.{◌≡◌, sym, ap, ◌∙◌}
use mathlib.Core.Bool.{true, false, not, cond}
use mathlib.Core.List.{List}
use Prim.Native.Nat.{ℕ, ◌+◌, ◌≤◌, ◌<◌}
use native.Mathlib.Nat.{add-zero}
use native.Mathlib.Omega.{arith}
use lib.ListN.{length, take, drop, get_or}
use lib.Seq.{get_or-drop, drop-drop, take-add, drop_at, length-take-le}
use lib.Dec.{ltb, eqb}
use borrow.Author.Tests.{lt-ltb, le-ltb, eq-eqb, ne_eqb}
use Rattle.frame.specs.Frame.{length_at, allowed, crc_right}
use Rattle.frame.specs.Judge.{judged}
use Rattle.frame.specs.declared.Reason.TheVariants.{NoSync, LengthNotAllowed, CrcWrong}
use Rattle.frame.specs.declared.Verdict.TheVariants.{NoFrame, Frame, Undecided}

module _ (c : ℕ) (v : List ℕ) where
  pub empty : length v ≡ 0 → judged c v ≡ Undecided
  unfolding judged
  empty h = simp (eq-eqb (length v) 0 h)

  module _ (some : 0 < length v) where
    not_empty : eqb (length v) 0 ≡ false
    not_empty = ne_eqb (length v) 0 (λ e. omega arith)

    pub sync0 : (get_or v 0 0 ≡ 0x24 → ⊥) → judged c v ≡ NoFrame NoSync
    unfolding judged
    sync0 n = simp (not_empty, ne_eqb (get_or v 0 0) 0x24 n)

    pub one : get_or v 0 0 ≡ 0x24 → length v ≡ 1 → judged c v ≡ Undecided
    unfolding judged
    one e l = simp (not_empty, eq-eqb (get_or v 0 0) 0x24 e, eq-eqb (length v) 1 l)

  module _ (two : 1 < length v) (first : get_or v 0 0 ≡ 0x24) where
    not_one : eqb (length v) 1 ≡ false
    not_one = ne_eqb (length v) 1 (λ e. omega arith)

    some : eqb (length v) 0 ≡ false
    some = ne_eqb (length v) 0 (λ e. omega arith)

    pub sync1 : (get_or v 1 0 ≡ 0x40 → ⊥) → judged c v ≡ NoFrame NoSync
    unfolding judged
    sync1 n = simp (some, eq-eqb (get_or v 0 0) 0x24 first, not_one, ne_eqb (get_or v 1 0) 0x40 n)

    module _ (second : get_or v 1 0 ≡ 0x40) where
      pub short : length v < 8 → judged c v ≡ Undecided
      unfolding judged
      short l = simp (some, eq-eqb (get_or v 0 0) 0x24 first, not_one, eq-eqb (get_or v 1 0) 0x40 second, lt-ltb (length v) 8 l)

      module _ (eight : 8 ≤ length v) where
        headed : judged c v
            ≡ cond (not (allowed c (length_at v 0))) (NoFrame LengthNotAllowed)
            (cond (ltb (length v) (length_at v 0)) Undecided (cond (crc_right v 0) (Frame (length_at v 0)) (NoFrame (CrcWrong (length_at v 0)))))
        unfolding judged
        headed = simp (some, eq-eqb (get_or v 0 0) 0x24 first, not_one, eq-eqb (get_or v 1 0) 0x40 second, le-ltb (length v) 8 eight)

        pub bad_length : allowed c (length_at v 0) ≡ false → judged c v ≡ NoFrame LengthNotAllowed
        bad_length e = headed ∙ simp e

        module _ (ok : allowed c (length_at v 0) ≡ true) where
          pub part : length v < length_at v 0 → judged c v ≡ Undecided
          part l = headed ∙ simp (ok, lt-ltb (length v) (length_at v 0) l)

          pub good : length_at v 0 ≤ length v → crc_right v 0 ≡ true → judged c v ≡ Frame (length_at v 0)
          good l e = headed ∙ simp (ok, le-ltb (length v) (length_at v 0) l, e)

          pub bad : length_at v 0 ≤ length v → crc_right v 0 ≡ false → judged c v ≡ NoFrame (CrcWrong (length_at v 0))
          bad l e = headed ∙ simp (ok, le-ltb (length v) (length_at v 0) l, e)

-- what is read at a place of w is read of the rest from p
module _ (w : List ℕ) (p : ℕ) where
  pub byte0 : get_or (drop p w) 0 0 ≡ get_or w p 0
  byte0 = get_or-drop p w 0 0 ∙ ap (λ (k : ℕ). get_or w k 0) (add-zero p)

  pub byte : (i : ℕ) → get_or (drop p w) i 0 ≡ get_or w (p + i) 0
  byte i = get_or-drop p w i 0

  pub body : (n : ℕ) → p ≤ length w → drop 4 (take n (drop p w)) ≡ drop (p + 4) (take (p + n) w)
  body n h =
      ap (drop 4) (sym (ap (drop p) (take-add p n w) ∙ drop_at (take p w) (take n (drop p w)) p (length-take-le p w h)))
      ∙ drop-drop 4 p (take (p + n) w)
