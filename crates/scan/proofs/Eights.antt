-- Four tests in one: where their disjunction fails, each of them does.
-- Assumes nothing.
use mathlib.Core.Path.{◌≡◌, sym, ap, ◌∙◌}
use mathlib.Core.Bool.{Bool, false, ◌||◌}
use mathlib.Core.List.{List}
use Prim.Native.Nat.{ℕ, ◌+◌, ◌≤◌, ◌<◌}
use native.Mathlib.Omega.{arith}
use lib.ListN.{get_or}
use lib.Dec.{eqb}
use borrow.Author.Tests.{eqb-false}
use Rattle.scan.specs.Scan.{NoDollar}
use Rattle.wire.proofs.Tests.{eq?, lt?, neither_left, neither_right}

module _ (s : List ℕ) (k : ℕ) where
  abbrev is : ℕ → Bool
  is i = eqb (get_or s i 0) 0x24

  not_at : (i j : ℕ) → j ≡ i → is i ≡ false → get_or s j 0 ≡ 0x24 → ⊥
  not_at i j e f q = eqb-false (get_or s i 0) 0x24 f (ap (λ (x : ℕ). get_or s x 0) (sym e) ∙ q)

  pub none_of_four : (is k || is (k + 1) || is (k + 2) || is (k + 3)) ≡ false → (j : ℕ) → k ≤ j → j < k + 4 → get_or s j 0 ≡ 0x24 → ⊥
  none_of_four f j lo hi q =
      let f3 = neither_left (is k || is (k + 1) || is (k + 2)) (is (k + 3)) f in
      let f2 = neither_left (is k || is (k + 1)) (is (k + 2)) f3 in
      eq? j k (λ e. not_at k j e (neither_left (is k) (is (k + 1)) f2) q)
      (λ na.
      eq? j (k + 1) (λ e. not_at (k + 1) j e (neither_right (is k) (is (k + 1)) f2) q)
      (λ nb.
      eq? j (k + 2) (λ e. not_at (k + 2) j e (neither_right (is k || is (k + 1)) (is (k + 2)) f3) q)
      (λ nc. not_at (k + 3) j (omega (arith, na, nb, nc)) (neither_right (is k || is (k + 1) || is (k + 2)) (is (k + 3)) f) q)))

-- two parts in a row with no first sync byte
pub no_dollar_on : (s : List ℕ) {i j k : ℕ} → NoDollar s i j → NoDollar s j k → NoDollar s i k
no_dollar_on s {i} {j} {k} a b =
    record {
      from = omega (arith, a.from, b.from);
      within = b.within;
      none = λ n lo hi e. lt? n j (λ l. a.none n lo l e) (λ l. b.none n l hi e);
    }
