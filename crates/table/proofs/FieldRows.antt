-- Field rows as they stand, four bytes each, and as they are meant: parts of them, one after the other, and what holds of every one.
-- Assumes nothing.
use Rattle.std.proofs.Common.{◌≡◌, ℕ, zero, suc, ◌+◌, ◌<◌, ◌≤◌, Bool, true, false, ◌&&◌, None, Some, List, [], ◌∷◌, length, drop, get_or, refl, ap, sym, ◌∙◌, arith, drop-cons, add-one}
use Rattle.std.specs.List.{list_all}
use Rattle.std.proofs.Math.ListN.{drop_of_length-le}
use Rattle.rows.specs.declared.FieldRow.{FieldRow}
use Rattle.table.specs.Lists.{every, pick}
use Rattle.rows.specs.Places.{field_of}
use Rattle.wire.proofs.Tests.{both}
use Rattle.table.specs.Shape.{fields_of}

-- none are left
pub none_left : (rows : List (List ℕ)) (k : ℕ) → length rows ≤ k → fields_of (drop k rows) ≡ []
none_left rows k h = ap fields_of (drop_of_length-le rows h)

-- one more is left
pub one_left : (rows : List (List ℕ)) (k : ℕ) (d : List ℕ) → k < length rows → fields_of (drop k rows) ≡ field_of (get_or rows k d) ∷ fields_of (drop (k + 1) rows)
one_left rows k d h = let e : drop k rows ≡ get_or rows k d ∷ drop (k + 1) rows = rw add-one (drop-cons rows k d h) in ap fields_of e

pub fields_pick : (rows : List (List ℕ)) (k : ℕ) (d : List ℕ) → k < length rows → pick (fields_of rows) k ≡ Some (field_of (get_or rows k d))
unfolding pick
fields_pick [] k d h = let z : ⊥ = omega arith in absurd z
fields_pick (r ∷ rows) zero d h = refl
fields_pick (r ∷ rows) (suc k) d h = fields_pick rows k d (omega arith)

pub fields_past : (rows : List (List ℕ)) (k : ℕ) → length rows ≤ k → pick (fields_of rows) k ≡ None
unfolding pick
fields_past [] k h = refl
fields_past (r ∷ rows) zero h = let z : ⊥ = omega arith in absurd z
fields_past (r ∷ rows) (suc k) h = fields_past rows k (omega arith)

-- what holds of every one holds of each
pub every_pick : {A : Type 0} (p : A → Bool) (xs : List A) (k : ℕ) (x : A) → every p xs ≡ true → pick xs k ≡ Some x → p x ≡ true
unfolding every pick
every_pick p [] k x e h = let z : ⊥ = cc in absurd z
every_pick p (y ∷ ys) zero x e h = let s : y ≡ x = cc in rw (← s) (both (p y) _ e).0
every_pick p (y ∷ ys) (suc k) x e h = every_pick p ys k x (both (p y) _ e).1 h

-- the same of every one, by `all`
pub all_every : (p : FieldRow → Bool) (rows : List (List ℕ)) → list_all (λ r. p (field_of r)) rows ≡ every p (fields_of rows)
unfolding every
all_every p [] = refl
all_every p (r ∷ rows) = ap (λ b. p (field_of r) && b) (all_every p rows)
