-- Runs of stores: one more store, one run behind or before another, and how long a number's bytes are.
-- Assumes nothing.
use mathlib.Core.List.{List, [], ◌∷◌, ◌++◌, append_assoc, append-nil}
use mathlib.Core.Path.{◌≡◌, refl, sym, ap, ◌∙◌}
use Prim.Native.Nat.{ℕ, zero, suc, ◌+◌, ◌-◌, ◌/◌, ◌%◌, ◌<◌, ◌≤◌}
use native.Mathlib.Nat.{add-zero}
use native.Mathlib.Omega.{arith}
use lib.ListN.{length, take, drop, set, length-drop}
use borrow.Rule.Slice.PartMut.{put_mid}
use lib.Seq.{sets, sets-eq, set_comm, length-take-le, drop_at, take-append_seam}
use Rattle.std.proofs.lemmas.List.{take_all, take_more_set}
use Rattle.std.proofs.lemmas.Slice.{put_mid-paste}
use Rattle.std.proofs.lemmas.List.Edits.{paste_all}
use Rattle.pen.specs.Bytes.{little_bytes}

pub length_little : (k n : ℕ) → length (little_bytes k n) ≡ k
unfolding little_bytes
length_little zero n = refl
length_little (suc k) n = ap suc (length_little k (n / 256))

module _ {A : Type 0} where
  -- a run behind a run
  pub sets_append : (l : List A) (i : ℕ) (xs ys : List A) → sets (sets l i xs) (i + length xs) ys ≡ sets l i (xs ++ ys)
  sets_append l i [] ys = rw add-zero
  sets_append l i (x ∷ xs) ys =
      let e : i + suc (length xs) ≡ suc i + length xs = omega arith in
      rw e (sets_append (set l i x) (suc i) xs ys)

  -- a run before a run
  set_sets : (l : List A) (i : ℕ) (x : A) (k : ℕ) (ys : List A) → i < k → set (sets l k ys) i x ≡ sets (set l i x) k ys
  set_sets l i x k [] h = refl
  set_sets l i x k (y ∷ ys) h =
      let n : (k ≡ i → ⊥) = λ e. omega arith in
      set_sets (set l k y) i x (suc k) ys (omega arith) ∙ ap (λ (m : List A). sets m (suc k) ys) (set_comm l k i y x n)

  pub sets_before : (l : List A) (i : ℕ) (xs ys : List A) → sets (sets l (i + length xs) ys) i xs ≡ sets l i (xs ++ ys)
  sets_before l i [] ys = rw add-zero
  sets_before l i (x ∷ xs) ys =
      let e : i + suc (length xs) ≡ suc i + length xs = omega arith in
      ap (λ (m : List A). sets m (suc i) xs) (set_sets l i x (i + suc (length xs)) ys (omega arith)) ∙ rw e (sets_before (set l i x) (suc i) xs ys)

  -- what was stored stands there
  pub stored_part : (l : List A) (i : ℕ) (xs : List A) → i + length xs ≤ length l → take (length xs) (drop i (sets l i xs)) ≡ xs
  stored_part l i xs h =
      rw (sets-eq xs l i h, append_assoc, drop_at (take i l) (xs ++ drop (i + length xs) l) i (length-take-le i l (omega arith)))
      (take-append_seam xs (drop (i + length xs) l))

-- a part of a buffer has as many bytes as were asked for
pub length_part : (s : List ℕ) (at n : ℕ) → at + n ≤ length s → length (take (at + n - at) (drop at s)) ≡ n
length_part s at n h = let e = length-drop at s in length-take-le (at + n - at) (drop at s) (omega arith) ∙ omega arith

-- a part of a buffer that holds other bytes now: they were stored there
pub mid_stored : (out : List ℕ) (at k : ℕ) (ys vs : List ℕ) → at + length vs ≤ length out → k ≡ length vs → ys ≡ vs → put_mid at k out ys ≡ sets out at vs
mid_stored out at k ys vs h e f =
    put_mid-paste at k out ys vs (length vs) f (sym e) refl ∙ paste_all out at vs (length vs) refl
    ∙ sym (sets-eq vs out at h ∙ append_assoc (take at out) vs (drop (at + length vs) out))

-- the k bytes of x, one more of them stored in `part`, and of what is left of x the others
module _ (k x : ℕ) (part : List ℕ) (j rest : ℕ) (inv : take j part ++ little_bytes (k - j) rest ≡ little_bytes k x) where
  pub little_more : j < k → j < length part → take (j + 1) (set part j (rest % 256)) ++ little_bytes (k - (j + 1)) (rest / 256) ≡ little_bytes k x
  unfolding little_bytes
  little_more h l =
      let e : k - j ≡ suc (k - (j + 1)) = omega arith in
      rw (take_more_set part j (rest % 256) l, append_assoc) (rw e at inv)

  pub little_all : k ≤ j → length part ≤ j → part ≡ little_bytes k x
  unfolding little_bytes
  little_all h l =
      let e : k - j ≡ 0 = omega arith in
      sym (take_all _ part l) ∙ sym (append-nil (take j part)) ∙ rw e at inv
