-- Reading a word from left to right: one law for each step of each loop, over plain lists.
-- Assumes nothing.
use mathlib.Core.Path.{◌≡◌, refl, sym, ap, ◌∙◌}
use mathlib.Core.Bool.{Bool, true, false, cond, not}
use mathlib.Core.List.{List, [], ◌∷◌, ◌++◌, append_assoc, append-nil}
use Rattle.std.proofs.Common.{Option, None, Some}
use Prim.Native.Nat.{ℕ, ◌+◌, ◌*◌, ◌^◌, ◌≤◌, ◌<◌}
use native.Mathlib.Nat.{pow-succ'}
use native.Mathlib.Numerals.{add-one}
use native.Mathlib.Omega.{arith}
use lib.ListN.{length, take, drop, get_or, set, drop_of_length-le}
use lib.Dec.{eqb, ltb}
use lib.Seq.{drop-cons, take-suc-set}
use Rattle.std.specs.List.{position, position_or_len}
use Rattle.std.proofs.Common.{unwrap_or}
use Rattle.std.proofs.lemmas.List.Sums.{prefix_len-le-length}
use Rattle.std.proofs.lemmas.Bool.Decides.{nat_tests}
use Rattle.std.proofs.lemmas.List.Recursion.{is_position_or_len}
use native.Mathlib.Numerals.{one-add}
use borrow.Author.Tests.{eq-eqb, ne_eqb, le-ltb}
use Rattle.words.specs.Words.{up_to, key_from, key_of, add_digit, number_then, decimal_in, hex_digit, in_front, bytes_from, bytes_in}

at_cons : (s : List ℕ) (i : ℕ) → i < length s → drop i s ≡ get_or s i 0 ∷ drop (i + 1) s
at_cons s i h = rw (add-one, drop-cons s i 0)

found : (n m : ℕ) → n ≤ m → n ≡ unwrap_or (cond (ltb n m) (Some n) None) m
found n m h = grind (arith, nat_tests)

-- the first space of a text, or its end
pub up_first : (w : List ℕ) → up_to 32 w ≡ position_or_len (λ c. eqb c 32) w
unfolding up_to
up_first w = is_position_or_len (up_to 32) (λ c. eqb c 32) refl (λ c s. rw one-add) w

pub up_is : (w : List ℕ) → up_to 32 w ≡ unwrap_or (position (λ c. eqb c 32) w) (length w)
up_is w = up_first w ∙ found (position_or_len (λ c. eqb c 32) w) (length w) (prefix_len-le-length (λ c. not (eqb c 32)) w)

pub key_grows : (k c i : ℕ) → k < 256 ^ i → c < 256 → k * 256 + c < 256 ^ (i + 1)
key_grows k c i l h = let p : 256 ^ (i + 1) ≡ 256 * 256 ^ i = rw add-one (pow-succ' 256 i) in omega arith

pub key_short : (w : List ℕ) → length w ≤ 8 → key_of w ≡ key_from 0 w
unfolding key_of
key_short w h = rw (le-ltb 8 (length w) h)

module _ (w : List ℕ) (i k : ℕ) where
  pub key_zero : i < length w → get_or w i 0 ≡ 0 → key_from k (drop i w) ≡ 0
  unfolding key_from
  key_zero h e = ap (key_from k) (at_cons w i h) ∙ rw (eq-eqb (get_or w i 0) 0 e)

  pub key_more : i < length w → (get_or w i 0 ≡ 0 → ⊥) → key_from k (drop i w) ≡ key_from (k * 256 + get_or w i 0) (drop (i + 1) w)
  unfolding key_from
  key_more h n = ap (key_from k) (at_cons w i h) ∙ rw (ne_eqb (get_or w i 0) 0 n)

  pub key_end : length w ≤ i → key_from k (drop i w) ≡ k
  unfolding key_from
  key_end h = rw (drop_of_length-le w h)

pub then_none : (w : List ℕ) → number_then w None ≡ None
unfolding number_then
then_none [] = refl
then_none (c ∷ w) = then_none w

pub number_some : (w : List ℕ) → 0 < length w → decimal_in w ≡ number_then w (Some 0)
unfolding decimal_in
number_some [] h = let z : ⊥ = omega arith in absurd z
number_some (c ∷ w) h = refl

pub number_empty : (w : List ℕ) → length w ≡ 0 → decimal_in w ≡ None
unfolding decimal_in
number_empty [] h = refl
number_empty (c ∷ w) h = let z : ⊥ = omega arith in absurd z

module _ (w : List ℕ) (i v : ℕ) where
  pub number_step : i < length w → number_then (drop i w) (Some v) ≡ number_then (drop (i + 1) w) (add_digit v (get_or w i 0))
  unfolding number_then
  number_step h = ap (λ (l : List ℕ). number_then l (Some v)) (at_cons w i h)

  pub number_end : length w ≤ i → number_then (drop i w) (Some v) ≡ Some v
  unfolding number_then
  number_end h = rw (drop_of_length-le w h)

-- bytes found, and those of the rest behind them
abbrev pub before : List ℕ → Option (List ℕ) → Option (List ℕ)
before l None = None
before l (Some m) = Some (l ++ m)

pub before_more : (g : List ℕ) (n x : ℕ) (o : Option (List ℕ)) → n < length g → before (take (n + 1) (set g n x)) o ≡ before (take n g) (in_front x o)
before_more g n x None h = refl
before_more g n x (Some m) h =
    let e : take (n + 1) (set g n x) ≡ take n g ++ (x ∷ []) = rw (add-one, take-suc-set g n x) in
    ap Some (ap (λ (l : List ℕ). l ++ m) e ∙ append_assoc (take n g) (x ∷ []) m)

pub before_last : (l : List ℕ) → before l (Some []) ≡ Some l
before_last l = ap Some (append-nil l)

module _ (w : List ℕ) (i : ℕ) where
  two_cons : i + 1 < length w → drop i w ≡ get_or w i 0 ∷ get_or w (i + 1) 0 ∷ drop (i + 2) w
  two_cons h =
      let e : i + 1 + 1 ≡ i + 2 = omega arith in
      at_cons w i (omega arith) ∙ ap (λ (l : List ℕ). get_or w i 0 ∷ l) (at_cons w (i + 1) h ∙ ap (λ (n : ℕ). get_or w (i + 1) 0 ∷ drop n w) e)

  pub bytes_odd : i + 1 ≡ length w → bytes_from (drop i w) ≡ None
  unfolding bytes_from
  bytes_odd h =
      let l : length w ≤ i + 1 = omega arith in
      ap bytes_from (at_cons w i (omega arith) ∙ ap (λ (x : List ℕ). get_or w i 0 ∷ x) (drop_of_length-le w l))

  pub bytes_end : length w ≤ i → bytes_from (drop i w) ≡ Some []
  unfolding bytes_from
  bytes_end h = rw (drop_of_length-le w h)

same_cond : {X : Type 0} (b : Bool) (o : X) → cond b o o ≡ o
same_cond true o = refl
same_cond false o = refl

-- the pair at p of a word
module _ (w : List ℕ) (p : ℕ) (h : p + 1 < length w) where
  pair : bytes_from (drop p w)
      ≡ cond (ltb 15 (hex_digit (get_or w p 0))) None
      (cond (ltb 15 (hex_digit (get_or w (p + 1) 0))) None (in_front (hex_digit (get_or w p 0) * 16 + hex_digit (get_or w (p + 1) 0)) (bytes_from (drop (p + 2) w))))
  unfolding bytes_from
  pair = ap bytes_from (two_cons w p h)

  pub high_bad : hex_digit (get_or w p 0) ≡ 16 → bytes_from (drop p w) ≡ None
  high_bad e = pair ∙ rw e

  pub low_bad : hex_digit (get_or w (p + 1) 0) ≡ 16 → bytes_from (drop p w) ≡ None
  low_bad e = pair ∙ rw e (same_cond (ltb 15 (hex_digit (get_or w p 0))) None)

  pair_good : (x y : ℕ) → x ≡ hex_digit (get_or w p 0) → y ≡ hex_digit (get_or w (p + 1) 0) → x < 16 → y < 16
      → bytes_from (drop p w) ≡ in_front (x * 16 + y) (bytes_from (drop (p + 2) w))
  pair_good x y ex ey hx hy = pair ∙ rw (← ex, ← ey, le-ltb 15 x (omega arith), le-ltb 15 y (omega arith))

pub pair_more : (w g : List ℕ) (n x y : ℕ) → x ≡ hex_digit (get_or w (2 * n) 0) → y ≡ hex_digit (get_or w (2 * n + 1) 0) → x < 16 → y < 16
    → n < length g → 2 * n + 1 < length w → before (take (n + 1) (set g n (x * 16 + y))) (bytes_from (drop (2 * (n + 1)) w)) ≡ before (take n g) (bytes_from (drop (2 * n) w))
pair_more w g n x y ex ey hx hy l h =
    let e : 2 * (n + 1) ≡ 2 * n + 2 = omega arith in
    rw e (before_more g n (x * 16 + y) (bytes_from (drop (2 * n + 2) w)) l) ∙ ap (before (take n g)) (sym (pair_good w (2 * n) h x y ex ey hx hy))

pub bytes_none : (w : List ℕ) → length w ≡ 0 → bytes_in w ≡ None
unfolding bytes_in
bytes_none [] h = refl
bytes_none (c ∷ w) h = let z : ⊥ = omega arith in absurd z

pub bytes_dash : (w : List ℕ) → length w ≡ 1 → get_or w 0 0 ≡ 45 → bytes_in w ≡ Some []
unfolding bytes_in
bytes_dash [] h e = let z : ⊥ = omega arith in absurd z
bytes_dash (c ∷ []) h e = rw e
bytes_dash (c ∷ d ∷ w) h e = let z : ⊥ = omega arith in absurd z

pub bytes_hex : (w : List ℕ) → 0 < length w → (length w ≡ 1 → get_or w 0 0 ≡ 45 → ⊥) → bytes_in w ≡ bytes_from w
unfolding bytes_in bytes_from
bytes_hex [] h n = let z : ⊥ = omega arith in absurd z
bytes_hex (c ∷ []) h n = rw (ne_eqb c 45 (n refl))
bytes_hex (c ∷ d ∷ w) h n = refl
