-- The bytes of a number and the number of bytes, there and back: each law once over the width.
-- Assumes nothing.
use mathlib.Core.List.{List, ◌∷◌, ◌++◌}
use mathlib.Core.Path.{◌≡◌, sym, ap, ◌∙◌}
use Prim.Native.Nat.{ℕ, zero, suc, ◌+◌, ◌*◌, ◌/◌, ◌%◌, ◌^◌, ◌<◌, ◌≤◌}
use native.Mathlib.Nat.{pow-succ'}
use native.Mathlib.Omega.{arith}
use lib.ListN.{length, take, get_or-append}
use lib.Seq.{get_or-take, drop-append_seam}
use Rattle.wire.specs.Little.{little_at}
use Rattle.wire.specs.Range.{Bytes}
use Rattle.wire.proofs.Laws.{agree, little_drop}
use Rattle.pen.specs.Bytes.{little_bytes}

-- they are bytes
pub bytes_little : (k n : ℕ) → Bytes (little_bytes k n)
unfolding little_bytes
bytes_little zero n j = omega arith
bytes_little (suc k) n zero = omega arith
bytes_little (suc k) n (suc j) = bytes_little k (n / 256) j

-- a number behind these bytes
pub little_behind : (k : ℕ) (xs ys : List ℕ) (i : ℕ) → little_at k (xs ++ ys) (length xs + i) ≡ little_at k ys i
little_behind k xs ys i =
    sym (little_drop k (xs ++ ys) (length xs) i) ∙ ap (λ (l : List ℕ). little_at k l i) (drop-append_seam xs ys)

-- a number inside these bytes
pub little_before : (k : ℕ) (xs ys : List ℕ) (i : ℕ) → i + k ≤ length xs → little_at k (xs ++ ys) i ≡ little_at k xs i
little_before k xs ys i h = agree k (xs ++ ys) xs i i (λ d l. get_or-append xs ys 0 (i + d) (omega arith))

pub little_take : (k n : ℕ) (s : List ℕ) (i : ℕ) → i + k ≤ n → little_at k (take n s) i ≡ little_at k s i
little_take k n s i h = agree k (take n s) s i i (λ d l. get_or-take n s (i + d) 0 (omega arith))

-- the bytes of a number are that number
pub little_back : (k n : ℕ) (rest : List ℕ) → n < 256 ^ k → little_at k (little_bytes k n ++ rest) 0 ≡ n
unfolding little_at little_bytes
little_back zero n rest h = omega arith
little_back (suc k) n rest h =
    let l : n < 256 * 256 ^ k = rw (pow-succ' 256 k) at h in
    let m : n / 256 < 256 ^ k = omega arith in
    let e : little_at k (n % 256 ∷ (little_bytes k (n / 256) ++ rest)) 1 ≡ n / 256 =
    sym (little_drop k (n % 256 ∷ (little_bytes k (n / 256) ++ rest)) 1 0) ∙ little_back k (n / 256) rest m in
    omega (arith, e)
