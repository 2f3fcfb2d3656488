-- A draft by its row: each answer is one law of `draft_ok`.
-- Assumes nothing.
use mathlib.Core.Bool.{true, false, not}
use mathlib.Core.List.{List, [], ◌∷◌}
use mathlib.Core.Path.{◌≡◌, refl}
use Rattle.std.specs.Bool.{then_some}
use Rattle.std.proofs.Common.{Option, None, Some}
use Prim.Native.Nat.{ℕ, ◌≤◌, ◌<◌}
use native.Mathlib.Omega.{arith}
use lib.Dec.{eqb}
use lib.ListN.{length}
use borrow.Author.Tests.{le-leb, lt-leb, ne_eqb}
use Rattle.table.specs.Rows.{BlockRow}
use Rattle.table.specs.declared.Shape.{Shape}
use Rattle.table.specs.Shape.{fields_of, shape_says}
use Rattle.std.proofs.lemmas.List.{length-map}
use Rattle.block.specs.Block.{has_subs}
use Rattle.entry.specs.Wanted.{Wanted, subs_in}
use Rattle.entry.specs.Bits.{list_ok}
use Rattle.draft.specs.declared.Head.{Head}
use Rattle.draft.specs.Draft.{draft_of, stamps_ok, body_ok, subs_ok, draft_ok}
use Rattle.draft.specs.Code.{Resting, Listing, subs_from, counted, subs_allowed, lists_counted}
use Rattle.draft.proofs.Walks.{ends_last}

none_counted : (ss : List (List Wanted)) → then_some (eqb (length ss) 0) 0 ≡ counted (eqb (length ss) 0) ss
none_counted [] = refl
none_counted (s ∷ ss) = rw (ne_eqb (length (s ∷ ss)) 0 (λ e. omega arith))

-- the lists, by a row of a table
module _ (row : Shape) (revision : ℕ) (kinds bits : List ℕ) where
  has_subs_lem : has_subs (shape_says row) ≡ not (eqb (length row.subs.now) 0)
  has_subs_lem = rw length-map

  abbrev all_counted : Option ℕ
  all_counted = lists_counted (shape_says row) revision kinds bits

  -- a row without sub-fields: all is in the body
  module _ (z : length row.subs.now ≡ 0) where
    pub body_not : Listing revision (fields_of row.body.now) kinds bits 0 None → None ≡ all_counted
    body_not l = rw (has_subs_lem, z, ← l.is)

    pub body_all : {q : ℕ} → Listing revision (fields_of row.body.now) kinds bits 0 (Some q) → then_some (eqb q (length kinds)) 0 ≡ all_counted
    body_all {q} l = rw (has_subs_lem, z, ← l.is, ends_last kinds bits 0 q l.left) (none_counted (subs_in kinds bits))

  module _ (z : length row.subs.now ≡ 0 → ⊥) where
    pub lists_set : Resting kinds 0 None → None ≡ all_counted
    lists_set r = rw (has_subs_lem, ne_eqb (length row.subs.now) 0 z, ← r.is bits)

    pub lists_subs : {q : ℕ} → Resting kinds 0 (Some q) → {a : Option ℕ}
        → a ≡ counted (subs_allowed (list_ok revision (fields_of row.subs.now)) (subs_from kinds bits q)) (subs_from kinds bits q)
        → a ≡ all_counted
    lists_subs r s = rw (has_subs_lem, ne_eqb (length row.subs.now) 0 z, ← r.is bits, ← (r.left bits).subs) s

-- the whole draft
module _ (b : BlockRow) (h : Head) (kinds bits : List ℕ) where
  abbrev whole_counted : Option ℕ
  whole_counted = counted (draft_ok b (draft_of h kinds bits)) (draft_of h kinds bits).subs

  pub draft_late : 7 < h.revision → None ≡ whole_counted
  unfolding draft_ok
  draft_late l = rw (lt-leb h.revision 7 l)

  module _ (l : h.revision ≤ 7) where
    pub draft_unstamped : stamps_ok (draft_of h [] []) ≡ false → None ≡ whole_counted
    unfolding draft_ok stamps_ok
    draft_unstamped e = rw (le-leb h.revision 7 l, e)

    pub draft_listed : stamps_ok (draft_of h [] []) ≡ true → {r : Option ℕ} → r ≡ lists_counted b h.revision kinds bits → r ≡ whole_counted
    unfolding draft_ok stamps_ok body_ok subs_ok
    draft_listed e a = rw (le-leb h.revision 7 l, e) a
