-- The places of a walk stand one behind the other: each starts where the one before it ends, or later (rule T21).
-- Assumes nothing.
use mathlib.Core.List.{List, [], ◌∷◌, ◌++◌}
use Rattle.std.proofs.Common.{None, Some}
use mathlib.Core.Path.{◌≡◌, refl, ap, subst}
use Prim.Native.Nat.{ℕ, zero, suc, ◌+◌, ◌*◌, ◌≤◌, ◌<◌}
use native.Mathlib.Nat.{add-zero, suc-mul, zero-mul, zero-add, le_refl}
use native.Mathlib.Numerals.{add-one}
use native.Mathlib.Omega.{arith}
use lib.ListN.{length}
use Rattle.table.specs.Lists.{tabulate, pick}
use Rattle.walk.specs.declared.Span.{Span}
use Rattle.walk.specs.declared.Nest.{Nest}
use Rattle.walk.specs.Walk.{count_in, span, nest_at, nest_end, walk_from, walk_over, seconds, places, walk_end}
use Rattle.walk.specs.Theorems.{WalkLaid}

-- from lo on, in order, and by hi
unfoldable Laid : ℕ → List Span → ℕ → Type 0
Laid lo [] hi = lo ≤ hi
Laid lo (s ∷ ss) hi = (lo ≤ s.at) × Laid (s.at + s.size) ss hi

laid_whole : (lo hi : ℕ) (ss : List Span) → Laid lo ss hi → lo ≤ hi
unfolding Laid
laid_whole lo hi [] d = d
laid_whole lo hi (s ∷ ss) d = omega (arith, d.0, laid_whole (s.at + s.size) hi ss d.1)

laid_from : (lo mid hi : ℕ) (ss : List Span) → lo ≤ mid → Laid mid ss hi → Laid lo ss hi
unfolding Laid
laid_from lo mid hi [] l d = omega arith
laid_from lo mid hi (s ∷ ss) l d = (omega (arith, d.0), d.1)

laid_join : (lo mid hi : ℕ) (ss ts : List Span) → Laid lo ss mid → Laid mid ts hi → Laid lo (ss ++ ts) hi
unfolding Laid
laid_join lo mid hi [] ts d e = laid_from lo mid hi ts d e
laid_join lo mid hi (s ∷ ss) ts d e = (d.0, laid_join (s.at + s.size) mid hi ss ts d.1 e)

-- nothing is picked of no places
nothing : {X : Type 0} {s : Span} → None ≡ Some s → X
nothing e = let z : ◌≡◌ {A = ℕ} 0 1 = cc in let f : ⊥ = omega arith in absurd f

laid_after : (lo hi : ℕ) (ss : List Span) → Laid lo ss hi → (i : ℕ) (s : Span) → pick ss i ≡ Some s → lo ≤ s.at
unfolding Laid pick
laid_after lo hi [] d i s e = nothing e
laid_after lo hi (x ∷ ss) d zero s e = let u : x ≡ s = cc in subst (λ (y : Span). lo ≤ y.at) u d.0
laid_after lo hi (x ∷ ss) d (suc i) s e = omega (arith, d.0, laid_after (x.at + x.size) hi ss d.1 i s e)

laid_by : (lo hi : ℕ) (ss : List Span) → Laid lo ss hi → (i : ℕ) (s : Span) → pick ss i ≡ Some s → s.at + s.size ≤ hi
unfolding Laid pick
laid_by lo hi [] d i s e = nothing e
laid_by lo hi (x ∷ ss) d zero s e =
    let u : x ≡ s = cc in
    subst (λ (y : Span). y.at + y.size ≤ hi) u (laid_whole _ hi ss d.1)
laid_by lo hi (x ∷ ss) d (suc i) s e = laid_by (x.at + x.size) hi ss d.1 i s e

laid_apart : (lo hi : ℕ) (ss : List Span) → Laid lo ss hi → (i j : ℕ) (s t : Span) → i < j → pick ss i ≡ Some s → pick ss j ≡ Some t
    → s.at + s.size ≤ t.at
unfolding Laid pick
laid_apart lo hi [] d i j s t l e f = nothing e
laid_apart lo hi (x ∷ ss) d i zero s t l e f = let z : ⊥ = omega arith in absurd z
laid_apart lo hi (x ∷ ss) d zero (suc j) s t l e f =
    let u : x ≡ s = cc in
    subst (λ (y : Span). y.at + y.size ≤ t.at) u (laid_after _ hi ss d.1 j t f)
laid_apart lo hi (x ∷ ss) d (suc i) (suc j) s t l e f = laid_apart (x.at + x.size) hi ss d.1 i j s t (omega arith) e f

-- k places of one size, from the i-th on
tab_laid : (base size i k lo hi : ℕ) → lo ≤ base + i * size → base + (i + k) * size ≤ hi
    → Laid lo (tabulate (λ (m : ℕ). span (base + m * size) size) i k) hi
unfolding Laid tabulate
tab_laid base size i zero lo hi l h = let u = rw (add-zero i) at h in omega arith
tab_laid base size i (suc k) lo hi l h =
    let e : i + suc k ≡ i + 1 + k = omega arith in
    let u : base + (i + 1 + k) * size ≤ hi = rw e at h in
    let v : (i + 1) * size ≡ i * size + size = rw add-one (suc-mul i size) in
    (l, tab_laid base size (i + 1) k (base + i * size + size) hi (omega arith) u)

seconds_laid : (n : Nest) → Laid (n.first.at + n.first.size) (seconds n) (nest_end n)
unfolding seconds
seconds_laid n =
    let z = zero-mul n.size in
    tab_laid (n.first.at + n.first.size) n.size 0 n.count _ _ (omega arith) (rw (zero-add n.count) (le_refl _))

module _ (n2 : ℕ) (b : List ℕ) where
  walk_laid : (at n : ℕ) → Laid at (places (walk_from n2 b at n)) (walk_end at (walk_from n2 b at n))
  unfolding Laid walk_from places walk_end
  walk_laid at zero = le_refl at
  walk_laid at (suc n) =
      let x = nest_at n2 b at in
      (le_refl at, laid_join _ (nest_end x) _ (seconds x) _ (seconds_laid x) (walk_laid (nest_end x) n))

  length_from : (at n : ℕ) → length (walk_from n2 b at n) ≡ n
  unfolding walk_from
  length_from at zero = refl
  length_from at (suc n) = ap suc (length_from (nest_end (nest_at n2 b at)) n)

  over_laid : Laid 20 (places (walk_over n2 b)) (walk_end 20 (walk_over n2 b))
  unfolding walk_over
  over_laid = walk_laid 20 (count_in b)

  over_all : length (walk_over n2 b) ≡ count_in b
  unfolding walk_over
  over_all = length_from 20 (count_in b)

pub laid : WalkLaid
laid =
    record {
      all = over_all;
      after = λ n2 b i s e. laid_after 20 _ (places (walk_over n2 b)) (over_laid n2 b) i s e;
      inside = λ n2 b i s e. laid_by 20 _ (places (walk_over n2 b)) (over_laid n2 b) i s e;
      apart = λ n2 b i j s t l e f. laid_apart 20 _ (places (walk_over n2 b)) (over_laid n2 b) i j s t l e f;
    }
