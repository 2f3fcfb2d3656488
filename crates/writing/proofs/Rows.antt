-- What the rules of a table say of a row that was found in it.
-- Assumes nothing.
use mathlib.Core.Bool.{Bool, true, cond}
use mathlib.Core.List.{List, [], ◌∷◌}
use Rattle.std.proofs.Common.{Some}
use mathlib.Core.Path.{◌≡◌, sym, ap, ◌∙◌, subst}
use Prim.Native.Nat.{ℕ, ◌≤◌}
use native.Mathlib.Omega.{arith}
use borrow.Author.Tests.{leb-true, eqb-true}
use Rattle.table.specs.Lists.{every, first_that}
use Rattle.table.specs.Rows.{BlockRow, Table}
use Rattle.table.specs.Rules.{number_ok, block_ok, meaning_ok}
use Rattle.table.specs.Lookup.{has_number, find_row}
use Rattle.table.proofs.Passed.{meaning}
use Rattle.wire.proofs.Tests.{bool?, both}
use Rattle.writer.proofs.Rows.{RowKept, row_kept}

-- the first that passes a test passes it, and what every one does
pub first_passes : {A : Type 0} (p q : A → Bool) (xs : List A) (x : A) → first_that p xs ≡ Some x → every q xs ≡ true → (p x ≡ true) × (q x ≡ true)
unfolding first_that every
first_passes p q [] x f e = cc
first_passes {A = A} p q (y ∷ ys) x f e =
    let k = both (q y) _ e in
    bool? (p y)
    (λ t.
    let s : Some y ≡ Some x = sym (ap (λ (b : Bool). cond b (Some y) (first_that p ys)) t) ∙ f in
    let i : y ≡ x = cc s in
    (subst (λ (z : A). p z ≡ true) i t, subst (λ (z : A). q z ≡ true) i k.0))
    (λ t. first_passes p q ys x (sym (ap (λ (b : Bool). cond b (Some y) (first_that p ys)) t) ∙ f) k.1)

-- T8, R6: its number is the one looked for, below 8,192; W1: it is of one level
pub record FoundKept (n : ℕ) (r : BlockRow) : Type 0 where
  pub kept : RowKept r
  pub small : n ≤ 8191
  pub one : r.firsts ≡ 0

pub found_kept : (tab : Table) (n : ℕ) (r : BlockRow) → meaning_ok tab ≡ true → find_row tab n ≡ Some r → r.firsts ≡ 0 → FoundKept n r
unfolding find_row
found_kept tab n r ok f one =
    let m = meaning tab ok in
    let a = first_passes (has_number n) number_ok tab.rows r f m.numbers in
    let b = first_passes (has_number n) block_ok tab.rows r f m.blocks in
    let i : r.number ≡ n = eqb-true _ _ a.0 in
    let l : r.number ≤ 8191 = leb-true _ _ a.1 in
    record { kept = row_kept r b.1 one; small = omega arith; one = one }
