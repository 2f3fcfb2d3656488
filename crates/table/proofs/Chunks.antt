-- A table's bytes in fours are its field rows.
-- Assumes nothing.
use Rattle.std.proofs.Common.{◌≡◌, ℕ, zero, suc, ◌+◌, ◌*◌, ◌-◌, ◌<◌, ◌≤◌, List, ◌∷◌, take, drop, get_or, refl, ap, ap₂, sym, ◌∙◌, arith}
use Rattle.std.proofs.lemmas.List.{get_or-take, get_or-drop, drop-drop}
use Rattle.std.specs.Simd.{first_chunks}
use Rattle.rows.specs.declared.FieldRow.{FieldRow}
use Rattle.rows.specs.Places.{field_row, field_at}
use Rattle.table.specs.Lists.{tabulate}
use Rattle.rows.specs.Places.{field_of}
use Rattle.table.specs.Shape.{fields_of}

byte_of : (t : List ℕ) (i j : ℕ) → j < 4 → get_or (take 4 (drop (4 * i) t)) j 0 ≡ get_or t (4 * i + j) 0
byte_of t i j h = get_or-take 4 (drop (4 * i) t) j 0 h ∙ get_or-drop (4 * i) t j 0

same_row : {a b c d a' b' c' d' : ℕ} → a ≡ a' → b ≡ b' → c ≡ c' → d ≡ d' → field_row a b c d ≡ field_row a' b' c' d'
same_row p q r s = rw (p, q, r, s)

four_of : (t : List ℕ) (i : ℕ) → field_of (take 4 (drop (4 * i) t)) ≡ field_at t i
unfolding field_at
four_of t i =
    let z : 4 * i + 0 ≡ 4 * i = omega arith in
    same_row (byte_of t i 0 (omega arith) ∙ ap (λ k. get_or t k 0) z) (byte_of t i 1 (omega arith)) (byte_of t i 2 (omega arith)) (byte_of t i 3 (omega arith))

-- the chunks from chunk i on are those of the bytes behind it
chunks_behind : (t : List ℕ) (i n : ℕ) → i ≤ n → drop i (first_chunks 4 n t) ≡ first_chunks 4 (n - i) (drop (4 * i) t)
chunks_behind t zero n h = let z : n - 0 ≡ n = omega arith in rw z
chunks_behind t (suc i) zero h = let z : ⊥ = omega arith in absurd z
chunks_behind t (suc i) (suc n) h =
    let m : 4 + 4 * i ≡ 4 * suc i = omega arith in
    let l : suc n - suc i ≡ n - i = omega arith in
    chunks_behind (drop 4 t) i n (omega arith) ∙ ap (λ s. first_chunks 4 (n - i) s) (drop-drop (4 * i) 4 t ∙ ap (λ k. drop k t) m) ∙ ap (λ k. first_chunks 4 k (drop (4 * suc i) t)) (sym l)

rows_behind : (t : List ℕ) (i k n : ℕ) → k ≤ n → fields_of (take k (first_chunks 4 n (drop (4 * i) t))) ≡ tabulate (field_at t) i k
unfolding tabulate
rows_behind t i zero n h = refl
rows_behind t i (suc k) zero h = let z : ⊥ = omega arith in absurd z
rows_behind t i (suc k) (suc n) h =
    let m : 4 * i + 4 ≡ 4 * (i + 1) = omega arith in
    ap₂ (λ (f : FieldRow) (fs : List FieldRow). f ∷ fs) (four_of t i)
    (ap (λ (s : List ℕ). fields_of (take k (first_chunks 4 n s))) (drop-drop 4 (4 * i) t ∙ ap (λ j. drop j t) m) ∙ rows_behind t (i + 1) k n (omega arith))

-- k field rows from index i on
rows_from : (t : List ℕ) (i k n : ℕ) → i + k ≤ n → fields_of (take k (drop i (first_chunks 4 n t))) ≡ tabulate (field_at t) i k
rows_from t i k n h = ap (λ (rs : List (List ℕ)). fields_of (take k rs)) (chunks_behind t i n (omega arith)) ∙ rows_behind t i k (n - i) (omega arith)

-- the rows from i up to j, of a part of the chunks
pub part_rows : (t : List ℕ) (rows : List (List ℕ)) (i j k n : ℕ) → rows ≡ first_chunks 4 n t → j ≡ i + k → j ≤ n → fields_of (take (j - i) (drop i rows)) ≡ tabulate (field_at t) i k
part_rows t rows i j k n e m h =
    let l : j - i ≡ k = omega arith in
    ap (λ (rs : List (List ℕ)). fields_of (take (j - i) (drop i rs))) e ∙ ap (λ x. fields_of (take x (drop i (first_chunks 4 n t)))) l ∙ rows_from t i k n (omega arith)
