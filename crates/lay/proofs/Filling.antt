-- Sub-blocks one after the other: a loop that stores them, where what is left of them gives the whole.
-- Assumes nothing.
use mathlib.Core.List.{List, [], ◌∷◌, flat_map}
use mathlib.Core.Path.{◌≡◌, refl, sym, ap, ◌∙◌}
use Prim.Native.Nat.{ℕ, ◌+◌, ◌*◌, ◌≤◌}
use native.Mathlib.Nat.{suc-mul}
use native.Mathlib.Omega.{arith}
use lib.ListN.{length, length-append}
use lib.Seq.{sets, length-sets}
use Rattle.pen.proofs.Stores.{sets_append}

module _ {A : Type 0} (g : A → List ℕ) (size : ℕ) where
  pub length_flat : (ss : List A) → ((s : A) → length (g s) ≡ size) → length (flat_map g ss) ≡ length ss * size
  unfolding flat_map
  length_flat [] h = omega arith
  length_flat (s ∷ ss) h =
      let e = length_flat ss h in
      let m = suc-mul (length ss) size in
      rw (length-append (g s) (flat_map g ss), h s) (omega (arith, e, m))

  pub record Filling (ss : List A) (to : ℕ) (out whole : List ℕ) : Type 0 where
    pub long : length out ≡ length whole
    pub room : to + length ss * size ≤ length out
    pub stores : sets out to (flat_map g ss) ≡ whole

  pub filling_all : (ss : List A) (to : ℕ) (out : List ℕ) → to + length ss * size ≤ length out → Filling ss to out (sets out to (flat_map g ss))
  filling_all ss to out h = record { long = sym (length-sets out to (flat_map g ss)); room = h; stores = refl }

  module _ {ss : List A} {to : ℕ} {out whole : List ℕ} (inv : Filling ss to out whole) where
    pub filling_end : ss ≡ [] → out ≡ whole
    unfolding flat_map
    filling_end e = sym (ap (λ (x : List A). sets out to (flat_map g x)) e) ∙ inv.stores

    module _ {s : A} {rest : List A} (e : ss ≡ s ∷ rest) where
      pub next_fits : to + size ≤ length out
      next_fits = let n = ap length e in let m = suc-mul (length rest) size in let h = rw e at inv.room in omega arith

      pub filling_more : length (g s) ≡ size → {left : List A} → left ≡ rest → {next : List ℕ} {on : ℕ} → next ≡ sets out to (g s) → on ≡ to + size
          → Filling left on next whole
      unfolding flat_map
      filling_more h f {next} {on} j k =
          let m = suc-mul (length rest) size in
          let r = rw e at inv.room in
          let n : length next ≡ length out = ap length j ∙ length-sets out to (g s) in
          let o : on ≡ to + length (g s) = omega arith in
          rw f
          record {
            long = n ∙ inv.long;
            room = omega arith;
            stores = rw (j, o, sets_append out to (g s) (flat_map g rest)) (rw e at inv.stores);
          }
