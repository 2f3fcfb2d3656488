-- The walk over the first-level sub-blocks: what is left gives the whole. Each way into, through and out of the loop is one law.
-- Assumes nothing.
use mathlib.Core.Bool.{Bool, false, ◌||◌, cond, or_assoc, or-false}
use mathlib.Core.List.{List, [], ◌∷◌}
use Rattle.std.proofs.Common.{Some}
use mathlib.Core.Path.{◌≡◌, refl, sym, ap, ◌∙◌}
use Prim.Native.Nat.{ℕ, suc, ◌+◌, ◌-◌, ◌*◌, ◌≤◌, ◌<◌}
use native.Mathlib.Nat.{mul-le-mul, sub-zero}
use native.Mathlib.Omega.{arith}
use lib.Dec.{ltb, eqb}
use borrow.Author.Tests.{eq-eqb, ne_eqb}
use Rattle.table.specs.Lists.{pick}
use Rattle.wire.proofs.Tests.{lt?, eq?}
use Rattle.walk.specs.declared.Nest.{Nest}
use Rattle.walk.specs.declared.Walked.{Walked}
use Rattle.walk.specs.Walk.{count_in, nest_at, nest_end, walk_from, walk_over, walk_end, any_second, no_nest, nest_or, walked_of}

-- the product of two bytes
pub small : (k n : ℕ) → k < 256 → n < 256 → k * n ≤ 65025
small k n a b = let u : k ≤ 255 = omega arith in let v : n ≤ 255 = omega arith in mul-le-mul u v

module _ {A : Type 0} (x : A) (xs : List A) (j : ℕ) where
  pick_first : j ≡ 0 → pick (x ∷ xs) j ≡ Some x
  unfolding pick
  pick_first e = rw e

  pick-later : 0 < j → pick (x ∷ xs) j ≡ pick xs (j - 1)
  unfolding pick
  pick-later h = let e : j ≡ suc (j - 1) = omega arith in ap (pick (x ∷ xs)) e

module _ (n2 : ℕ) (b : List ℕ) (at m : ℕ) where
  from_none : m ≡ 0 → walk_from n2 b at m ≡ []
  unfolding walk_from
  from_none e = rw e

  from_more : 0 < m → walk_from n2 b at m ≡ nest_at n2 b at ∷ walk_from n2 b (nest_end (nest_at n2 b at)) (m - 1)
  unfolding walk_from
  from_more h = let e : m ≡ suc (m - 1) = omega arith in ap (walk_from n2 b at) e

-- i of them are passed, the next one stands at `at`: what was found of the ones passed, and what is left gives the rest
pub record Walking (n2 : ℕ) (b : List ℕ) (k i at : ℕ) (any : Bool) (nest : Nest) : Type 0 where
  pub few : i ≤ count_in b
  pub low : at ≤ 20 + i * 65280
  pub ends : walk_end 20 (walk_over n2 b) ≡ walk_end at (walk_from n2 b at (count_in b - i))
  pub some_any : any_second (walk_over n2 b) ≡ (any || any_second (walk_from n2 b at (count_in b - i)))
  pub found : k < i → nest_or (pick (walk_over n2 b) k) ≡ nest
  pub ahead : i ≤ k → nest ≡ no_nest
  pub left : i ≤ k → pick (walk_over n2 b) k ≡ pick (walk_from n2 b at (count_in b - i)) (k - i)

module _ (n2 : ℕ) (b : List ℕ) (k : ℕ) where
  pub enters : Walking n2 b k 0 20 false no_nest
  unfolding walk_over
  enters =
      record {
        few = omega arith;
        low = omega arith;
        ends = rw sub-zero;
        some_any = rw sub-zero;
        found = λ h. let f : ⊥ = omega arith in absurd f;
        ahead = λ _. refl;
        left = λ _. rw (sub-zero (count_in b), sub-zero k);
      }

  module _ (i at : ℕ) (any : Bool) (nest : Nest) (w : Walking n2 b k i at any nest) where
    pub all_walked : count_in b ≤ i → ◌≡◌ {A = Walked} (record { end = at; any = any; nest = nest }) (walked_of n2 b k)
    unfolding walked_of walk_end any_second pick
    all_walked h =
        let e = from_none n2 b at (count_in b - i) (omega arith) in
        let u : walk_end 20 (walk_over n2 b) ≡ at = w.ends ∙ rw e in
        let v : any_second (walk_over n2 b) ≡ any = w.some_any ∙ rw e (or-false any) in
        let z : nest_or (pick (walk_over n2 b) k) ≡ nest =
        lt? k i w.found (λ l. rw (w.left l, e) (sym (w.ahead l))) in
        rw (u, v, z)

    module _ (h : i < count_in b) (n : Nest) (g : n ≡ nest_at n2 b at) where
      next : walk_from n2 b at (count_in b - i) ≡ n ∷ walk_from n2 b (nest_end n) (count_in b - (i + 1))
      next =
          let e : count_in b - i - 1 ≡ count_in b - (i + 1) = omega arith in
          rw (g, ← e) (from_more n2 b at (count_in b - i) (omega arith))

      -- the one that was asked for is this one
      here : i ≡ k → nest_or (pick (walk_over n2 b) k) ≡ n
      here e =
          let p : pick (walk_over n2 b) k ≡ Some n = w.left (omega arith) ∙ rw next (pick_first n _ (k - i) (omega arith)) in
          ap nest_or p

      module _ (e : ℕ) (u : e ≡ nest_end n) (f : e ≤ n.first.at + 65280) (m : Nest) (v : m ≡ cond (eqb i k) n nest) where
        passes : k < i + 1 → nest_or (pick (walk_over n2 b) k) ≡ m
        passes l =
            eq? i k
            (λ o. here o ∙ sym (v ∙ rw (eq-eqb i k o)))
            (λ o. w.found (omega arith) ∙ sym (v ∙ rw (ne_eqb i k o)))

        still : i + 1 ≤ k → m ≡ no_nest
        still l = let o : i ≡ k → ⊥ = λ z. omega arith in (v ∙ rw (ne_eqb i k o)) ∙ w.ahead (omega arith)

        later : i + 1 ≤ k → pick (walk_over n2 b) k ≡ pick (walk_from n2 b e (count_in b - (i + 1))) (k - (i + 1))
        later l =
            let o : k - i - 1 ≡ k - (i + 1) = omega arith in
            rw (u, ← o) (w.left (omega arith) ∙ rw next (pick-later n _ (k - i) (omega arith)))

        pub walks_on : Walking n2 b k (i + 1) e (any || ltb 0 n.count) m
        unfolding walk_end any_second
        walks_on =
            let a = ap (λ (x : Nest). x.first.at) g in
            record {
              few = omega arith;
              low = omega (arith, w.low);
              ends = rw u (w.ends ∙ rw next);
              some_any = rw u (w.some_any ∙ rw next (sym (or_assoc any (ltb 0 n.count) _)));
              found = passes;
              ahead = still;
              left = later;
            }
