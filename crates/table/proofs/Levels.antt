-- The rows of each level of a block row that keeps the rules, by their index.
-- Assumes nothing.
use mathlib.Core.Bool.{Bool, true, false, ◌&&◌}
use mathlib.Core.List.{List, []}
use Rattle.std.proofs.Common.{Some}
use mathlib.Core.Path.{◌≡◌, refl, sym, ◌∙◌}
use Prim.Native.Nat.{ℕ, ◌+◌, ◌-◌, ◌<◌, ◌≤◌}
use native.Mathlib.Nat.{le_refl}
use native.Mathlib.Omega.{arith}
use lib.Dec.{eqb}
use lib.ListN.{length}
use borrow.Author.Tests.{leb-true, eqb-true, eq-eqb, ne_eqb}
use Rattle.rows.specs.declared.Row.{Row}
use Rattle.rows.specs.Places.{field_at}
use Rattle.table.specs.Lists.{tabulate, every}
use Rattle.table.specs.Rows.{BlockRow, first_rows, second_rows, nested_row}
use Rattle.table.specs.Decode.{block_of, first_count}
use Rattle.table.specs.Rules.{offset_ok, fields_ok, levels_ok, is_nested, is_triple, nest_ok, shape_ok, block_ok}
use Rattle.table.proofs.Lists.{length_tab, pick_in, take_tab, drop_tab}
use Rattle.wire.proofs.Tests.{both}

-- a row of one level: all rows are its first level's
module _ (b : BlockRow) (one : b.firsts ≡ 0) where
  pub one_first : first_rows b ≡ b.subs
  unfolding first_rows
  one_first = rw (eq-eqb b.firsts 0 one)

  pub one_second : second_rows b ≡ []
  unfolding second_rows
  one_second = rw (eq-eqb b.firsts 0 one)

-- T19, T20: what the rules say of a row of two levels
module _ (b : BlockRow) (ok : block_ok b ≡ true) (two : b.firsts ≡ 0 → ⊥) where
  nest : nest_ok b ≡ true
  unfolding block_ok shape_ok
  nest =
      let all = every offset_ok b.body && fields_ok b.highest b.body && fields_ok b.highest (first_rows b) && fields_ok b.highest (second_rows b) in
      rw (ne_eqb b.firsts 0 two) at (both all _ ok).1

  pub two_few : b.firsts ≤ length b.subs
  unfolding nest_ok
  two_few =
      let a = both (levels_ok b && is_nested (nested_row b) && is_triple b.body) _ nest in
      let c = both (levels_ok b && is_nested (nested_row b)) _ a.0 in
      leb-true _ _ (both (levels_ok b) _ c.0).0

-- the same of a row as it stands
module _ (t : List ℕ) (r : Row) (ok : block_ok (block_of t r) ≡ true) where
  seen_two : (r.firsts ≡ 0 → ⊥) → (block_of t r).firsts ≡ 0 → ⊥
  unfolding block_of
  seen_two n e = n e

  seen_few : (block_of t r).firsts ≤ length (block_of t r).subs → r.firsts ≤ r.subs
  unfolding block_of
  seen_few h = rw (length_tab (field_at t) (r.start + r.bodies) r.subs) at h

  firsts_within : (r.firsts ≡ 0 → ⊥) → r.firsts ≤ r.subs
  firsts_within two = seen_few (two_few (block_of t r) ok (seen_two two))

  pub few : r.firsts ≤ r.subs
  few = by (eqb r.firsts 0) refl where
    by : (x : Bool) → eqb r.firsts 0 ≡ x → r.firsts ≤ r.subs
    by true e = let z : r.firsts ≡ 0 = eqb-true _ _ e in omega arith
    by false e =
        firsts_within (λ z. let y : true ≡ false = sym (eq-eqb r.firsts 0 z) ∙ e in let n : ◌≡◌ {A = ℕ} 0 1 = cc in let f : ⊥ = omega arith in f)

  pub first_few : first_count r ≤ r.subs
  unfolding first_count
  first_few = by (eqb r.firsts 0) refl where
    by : (x : Bool) → eqb r.firsts 0 ≡ x → first_count r ≤ r.subs
    by true e = rw e (le_refl r.subs)
    by false e = rw e few

  pub first_are : first_rows (block_of t r) ≡ tabulate (field_at t) (r.start + r.bodies) (first_count r)
  unfolding first_rows block_of first_count
  first_are = by (eqb r.firsts 0) refl where
    by : (x : Bool) → eqb r.firsts 0 ≡ x → first_rows (block_of t r) ≡ tabulate (field_at t) (r.start + r.bodies) (first_count r)
    by true e = rw e
    by false e = rw e (take_tab (field_at t) (r.start + r.bodies) r.subs r.firsts few)

  module _ (two : r.firsts ≡ 0 → ⊥) where
    pub second_are : second_rows (block_of t r) ≡ tabulate (field_at t) (r.start + r.bodies + r.firsts) (r.subs - r.firsts)
    unfolding second_rows block_of
    second_are = rw (ne_eqb r.firsts 0 two) (drop_tab (field_at t) (r.start + r.bodies) r.subs r.firsts few)
