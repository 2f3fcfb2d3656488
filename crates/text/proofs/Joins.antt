-- Text that grows at its end: each word put behind what stands makes the text so far and the word.
-- Assumes nothing.
use mathlib.Core.Path.{◌≡◌, ap, ◌∙◌}
use mathlib.Core.List.{List, ◌++◌, append_assoc}
use Prim.Native.Nat.{ℕ, ◌^◌, ◌<◌}
use native.Mathlib.Omega.{arith}
use Rattle.io.specs.Digits.{last_digits, IsDigitCount}
use Rattle.text.specs.Numbers.{decimal, four_hex}
use Rattle.text.proofs.Decimals.{places_is, four_are}

-- y is x and a, z is y and b
pub joined : (x a b : List ℕ) {y z : List ℕ} → y ≡ x ++ a → z ≡ y ++ b → z ≡ x ++ (a ++ b)
joined x a b {y} {z} e f = f ∙ ap (λ (l : List ℕ). l ++ b) e ∙ append_assoc x a b

pub decimal_is : (n k : ℕ) → n < 2 ^ 64 → IsDigitCount 10 1 n k → last_digits 10 k n ≡ decimal n
unfolding decimal
decimal_is n k l f = ap (λ (j : ℕ). last_digits 10 j n) (places_is 19 n k (omega arith) f)

pub hex_is : (n k : ℕ) → n < 65536 → IsDigitCount 16 4 n k → last_digits 16 k n ≡ four_hex n
unfolding four_hex
hex_is n k l f = ap (λ (j : ℕ). last_digits 16 j n) (four_are n k l f)
