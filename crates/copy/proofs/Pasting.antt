-- A copy in progress: the length stays.
-- Assumes nothing.
use mathlib.Core.Path.{◌≡◌, ap, ◌∙◌}
use mathlib.Core.List.{List}
use Prim.Native.Nat.{ℕ, ◌+◌, ◌≤◌}
use native.Mathlib.Omega.{arith}
use lib.ListN.{length, drop, length-drop}
use lib.Seq.{paste, length-paste}

pub paste_long : (l d : List ℕ) (at : ℕ) (s : List ℕ) (b j : ℕ) → l ≡ paste d at (drop b s) j → at + j ≤ length d → b + j ≤ length s → length l ≡ length d
paste_long l d at s b j e hd hs = ap length e ∙ length-paste d at (drop b s) j hd (omega (arith, length-drop b s))
