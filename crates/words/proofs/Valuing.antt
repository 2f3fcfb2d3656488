-- Words read as values: one law for each return, over plain words and numbers.
-- Assumes nothing.
use Prim.Native.Nat.{ℕ, ◌-◌, ◌<◌}
use mathlib.Core.Path.{◌≡◌, refl}
use mathlib.Core.List.{List, [], ◌∷◌}
use Rattle.std.proofs.Common.{None, Some}
use native.Mathlib.Omega.{arith}
use lib.ListN.{length, take, drop, get_or, length-drop}
use lib.Seq.{take_all}
use borrow.Author.Tests.{eq-eqb, ne_eqb}
use Rattle.words.specs.Words.{decimal_in}
use Rattle.words.specs.Values.{from_zero, below_zero, signed_number_in, of_kind, lone_is, letter_is, value_in, stamp_in}

-- the rest of a word, as the kit cuts it out
pub rest_whole : (w : List ℕ) (n : ℕ) → take (length w - n) (drop n w) ≡ drop n w
rest_whole w n = take_all (length w - n) (drop n w) (omega (arith, length-drop n w))

pub signed_empty : (w : List ℕ) → length w ≡ 0 → None ≡ signed_number_in w
unfolding signed_number_in
signed_empty [] h = refl
signed_empty (c ∷ w) h = let z : ⊥ = omega arith in absurd z

pub signed_minus : (w : List ℕ) → 0 < length w → get_or w 0 0 ≡ 45 → below_zero (decimal_in (drop 1 w)) ≡ signed_number_in w
unfolding signed_number_in
signed_minus [] h e = let z : ⊥ = omega arith in absurd z
signed_minus (c ∷ w) h e = rw (eq-eqb c 45 e)

pub signed_plus : (w : List ℕ) → 0 < length w → (get_or w 0 0 ≡ 45 → ⊥) → from_zero (decimal_in w) ≡ signed_number_in w
unfolding signed_number_in
signed_plus [] h e = let z : ⊥ = omega arith in absurd z
signed_plus (c ∷ w) h e = rw (ne_eqb c 45 e)

pub value_empty : (w : List ℕ) → length w ≡ 0 → None ≡ value_in w
unfolding value_in
value_empty [] h = refl
value_empty (c ∷ w) h = let z : ⊥ = omega arith in absurd z

pub value_lone : (w : List ℕ) → length w ≡ 1 → lone_is (get_or w 0 0) ≡ value_in w
unfolding value_in
value_lone [] h = let z : ⊥ = omega arith in absurd z
value_lone (c ∷ []) h = refl
value_lone (c ∷ d ∷ w) h = let z : ⊥ = omega arith in absurd z

pub value_letter : (w : List ℕ) → 1 < length w → letter_is (get_or w 0 0) (drop 1 w) ≡ value_in w
unfolding value_in
value_letter [] h = let z : ⊥ = omega arith in absurd z
value_letter (c ∷ []) h = let z : ⊥ = omega arith in absurd z
value_letter (c ∷ d ∷ w) h = refl

pub stamp_dash : (w : List ℕ) → length w ≡ 1 → get_or w 0 0 ≡ 45 → Some (0, 0) ≡ stamp_in w
unfolding stamp_in
stamp_dash [] h e = let z : ⊥ = omega arith in absurd z
stamp_dash (c ∷ []) h e = rw e
stamp_dash (c ∷ d ∷ w) h e = let z : ⊥ = omega arith in absurd z

pub stamp_number : (w : List ℕ) → (length w ≡ 1 → get_or w 0 0 ≡ 45 → ⊥) → of_kind 1 (decimal_in w) ≡ stamp_in w
unfolding stamp_in
stamp_number [] n = refl
stamp_number (c ∷ []) n = rw (ne_eqb c 45 (n refl))
stamp_number (c ∷ d ∷ w) n = refl
