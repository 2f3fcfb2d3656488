-- Words are told apart by their keys: of two words the longer has the larger key, and of two as long the digits agree one by one.
-- Assumes nothing.
use mathlib.Core.Path.{◌≡◌, refl, ap₂}
use mathlib.Core.Bool.{Bool, true, false, cond}
use mathlib.Core.List.{List, [], ◌∷◌}
use Prim.Native.Nat.{ℕ, zero, suc, ◌+◌, ◌*◌, ◌≤◌, ◌<◌}
use native.Mathlib.Omega.{arith}
use lib.ListN.{length, get_or}
use lib.Dec.{ltb, eqb-suc-zero}
use borrow.Author.Tests.{ltb-false}
use Rattle.words.specs.Words.{key_from, key_of}
use Rattle.words.specs.Theorems.{KeysApart}
use Rattle.words.proofs.Reading.{key_short}

-- a byte is below 256
abbrev Bytes : List ℕ → Type 0
Bytes w = (j : ℕ) → get_or w j 0 < 256

-- ---- the steps of a key, from the front

at_end : (k : ℕ) → key_from k [] ≡ k
unfolding key_from
at_end k = refl

at_zero : (k : ℕ) (w : List ℕ) → key_from k (zero ∷ w) ≡ 0
unfolding key_from
at_zero k w = refl

at-digit : (k c : ℕ) (w : List ℕ) → key_from k (suc c ∷ w) ≡ key_from (k * 256 + suc c) w
unfolding key_from
at-digit k c w = rw (eqb-suc-zero c)

-- ---- how large a key is

no_less : (w : List ℕ) (k : ℕ) → 0 < key_from k w → k ≤ key_from k w
no_less [] k p = omega (arith, at_end k)
no_less (zero ∷ w) k p = omega (arith, at_zero k w)
no_less (suc c ∷ w) k p =
    let y = at-digit k c w in
    let q : 0 < key_from (k * 256 + suc c) w = omega arith in
    let i = no_less w (k * 256 + suc c) q in
    omega arith

-- behind a larger number, and with as many bytes or more
larger : (v w : List ℕ) (k m : ℕ) → Bytes v → length v ≤ length w → k < m → 0 < key_from m w → key_from k v < key_from m w
larger [] w k m b l h p = omega (arith, at_end k, no_less w m p)
larger (zero ∷ v) w k m b l h p = omega (arith, at_zero k v)
larger (suc c ∷ v) [] k m b l h p = omega arith
larger (suc c ∷ v) (zero ∷ w) k m b l h p = omega (arith, at_zero m w)
larger (suc c ∷ v) (suc d ∷ w) k m b l h p =
    let x = at-digit k c v in
    let y = at-digit m d w in
    let q : 0 < key_from (m * 256 + suc d) w = omega arith in
    let s : suc c < 256 = b 0 in
    let i = larger v w (k * 256 + suc c) (m * 256 + suc d) (λ j. b (suc j)) (omega arith) (omega arith) q in
    omega arith

longer : (v w : List ℕ) → Bytes v → length v < length w → 0 < key_from 0 w → key_from 0 v < key_from 0 w
longer v [] b l p = omega arith
longer v (zero ∷ w) b l p = omega (arith, at_zero 0 w)
longer v (suc d ∷ w) b l p =
    let y = at-digit 0 d w in
    let q : 0 < key_from (0 * 256 + suc d) w = omega arith in
    let i = larger v w 0 (0 * 256 + suc d) b (omega arith) (omega arith) q in
    omega arith

-- ---- the digits of two words as long

same : (v w : List ℕ) (k m : ℕ) → Bytes v → Bytes w → length v ≡ length w → 0 < key_from k v → key_from k v ≡ key_from m w → (k ≡ m) × (v ≡ w)
same [] [] k m a b l p e = (omega (arith, at_end k, at_end m), refl)
same [] (d ∷ w) k m a b l p e = let f : ⊥ = omega arith in absurd f
same (zero ∷ v) w k m a b l p e = let f : ⊥ = omega (arith, at_zero k v) in absurd f
same (suc c ∷ v) [] k m a b l p e = let f : ⊥ = omega arith in absurd f
same (suc c ∷ v) (zero ∷ w) k m a b l p e = let f : ⊥ = omega (arith, at_zero m w) in absurd f
same (suc c ∷ v) (suc d ∷ w) k m a b l p e =
    let x = at-digit k c v in
    let y = at-digit m d w in
    let q : 0 < key_from (k * 256 + suc c) v = omega arith in
    let r : key_from (k * 256 + suc c) v ≡ key_from (m * 256 + suc d) w = omega arith in
    let i = same v w (k * 256 + suc c) (m * 256 + suc d) (λ j. a (suc j)) (λ j. b (suc j)) (omega arith) q r in
    let s : suc c < 256 = a 0 in
    let t : suc d < 256 = b 0 in
    let n : k ≡ m = omega (arith, i.0) in
    let o : suc c ≡ suc d = omega (arith, i.0) in
    (n, ap₂ ◌∷◌ o i.1)

-- ---- which words have a key

passed : (t : Bool) (n : ℕ) → 0 < cond t 0 n → (t ≡ false) × (cond t 0 n ≡ n)
passed true n p = let f : ⊥ = omega arith in absurd f
passed false n p = (refl, refl)

few : (w : List ℕ) → 0 < key_of w → length w ≤ 8
unfolding key_of
few w p = ltb-false 8 (length w) (passed (ltb 8 (length w)) (key_from 0 w) p).0

nonzero : (w : List ℕ) (k : ℕ) → 0 < key_from k w → (j : ℕ) → j < length w → 0 < get_or w j 0
nonzero [] k p j l = omega arith
nonzero (zero ∷ w) k p j l = omega (arith, at_zero k w)
nonzero (suc c ∷ w) k p zero l = omega arith
nonzero (suc c ∷ w) k p (suc j) l =
    let y = at-digit k c w in
    nonzero w (k * 256 + suc c) (omega arith) j (omega arith)

positive : (w : List ℕ) (k : ℕ) → 0 < k + length w → ((j : ℕ) → j < length w → 0 < get_or w j 0) → 0 < key_from k w
positive [] k h z = omega (arith, at_end k)
positive (zero ∷ w) k h z = let l : 0 < suc (length w) = omega arith in omega (arith, z 0 l)
positive (suc c ∷ w) k h z =
    let y = at-digit k c w in
    let i = positive w (k * 256 + suc c) (omega arith) (λ j l. z (suc j) (omega arith)) in
    omega arith

begins : (w : List ℕ) → 0 < key_from 0 w → 0 < length w
begins [] p = omega (arith, at_end 0)
begins (c ∷ w) p = omega arith

apart : (v w : List ℕ) → Bytes v → Bytes w → 0 < key_of v → key_of v ≡ key_of w → v ≡ w
apart v w a b p e =
    let x = key_short v (few v p) in
    let y = key_short w (few w (omega arith)) in
    let q : 0 < key_from 0 v = omega arith in
    let r : 0 < key_from 0 w = omega arith in
    let s : length v < length w → ⊥ = λ l. omega (arith, longer v w a l r) in
    let t : length w < length v → ⊥ = λ l. omega (arith, longer w v b l q) in
    (same v w 0 0 a b (omega arith) q (omega arith)).1

pub told_apart : KeysApart
told_apart =
    record {
      apart = apart;
      has = λ w h. let y = key_short w h.few in let i = positive w 0 (omega (arith, h.any)) h.nonzero in omega arith;
      only = λ w p.
          let y = key_short w (few w p) in
          let q : 0 < key_from 0 w = omega arith in
          record { any = begins w q; few = few w p; nonzero = nonzero w 0 q };
    }
