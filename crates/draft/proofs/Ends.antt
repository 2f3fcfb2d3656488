-- Where the last field ends, looked for from the last row on; and what SBLength and the end are by it.
-- Assumes nothing.
use mathlib.Core.Bool.{true, false, cond}
use mathlib.Core.List.{List, [], ◌∷◌}
use mathlib.Core.Path.{◌≡◌, refl, sym, ap, ◌∙◌}
use Prim.Native.Nat.{ℕ, zero, suc, ◌+◌, ◌*◌, ◌/◌, ◌≤◌, ◌<◌}
use native.Mathlib.Nat.{zero-mul, mul-le-mul}
use native.Mathlib.Omega.{arith}
use lib.ListN.{length, take, get_or}
use borrow.Author.Tests.{ne_eqb}
use Rattle.rows.specs.declared.FieldRow.{FieldRow}
use Rattle.rows.specs.Places.{field_of}
use Rattle.table.specs.Rows.{BlockRow, ends}
use Rattle.table.specs.declared.Shape.{Shape}
use Rattle.table.specs.Shape.{fields_of, shape_says}
use Rattle.table.specs.Lookup.{carried}
use Rattle.draft.specs.Draft.{Draft, last_end, sb_length_by, sb_length, block_end_by, block_end, round_up}
use Rattle.draft.specs.Code.{Sizing}

-- of one row more: its end where it is carried, else that of the rows before it
end_more : (rows : List (List ℕ)) (revision from k : ℕ) (d : List ℕ) → k < length rows
    → last_end revision from (fields_of (take (suc k) rows)) ≡ cond (carried revision (field_of (get_or rows k d))) (ends (field_of (get_or rows k d))) (last_end revision from (fields_of (take k rows)))
unfolding last_end
end_more [] revision from k d h = let z : ⊥ = omega arith in absurd z
end_more (r ∷ rows) revision from zero d h = refl
end_more (r ∷ rows) revision from (suc k) d h = end_more rows revision (cond (carried revision (field_of r)) (ends (field_of r)) from) k d (omega arith)

-- the rows from k on are not carried, so those before them give the whole
module _ (rows : List (List ℕ)) (revision from k whole : ℕ) (inv : whole ≡ last_end revision from (fields_of (take k rows))) where
  pub ends_none : k ≡ 0 → from ≡ whole
  unfolding last_end
  ends_none e = sym (inv ∙ rw e)

  module _ (j : ℕ) (i : k ≡ suc j) (g : FieldRow) (d : List ℕ) (e : g ≡ field_of (get_or rows j d)) (h : j < length rows) where
    last_is : whole ≡ cond (carried revision g) (ends g) (last_end revision from (fields_of (take j rows)))
    last_is = rw e (inv ∙ ap (λ (n : ℕ). last_end revision from (fields_of (take n rows))) i ∙ end_more rows revision from j d h)

    pub ends_at : carried revision g ≡ true → ends g ≡ whole
    ends_at c = sym (last_is ∙ rw c)

    pub ends_before : carried revision g ≡ false → whole ≡ last_end revision from (fields_of (take j rows))
    ends_before c = last_is ∙ rw c

-- SBLength and L, by a row of a table
module _ (row : Shape) (revision n : ℕ) where
  pub length_none : n ≡ 0 → 0 ≡ sb_length_by (shape_says row) revision n
  unfolding sb_length_by
  length_none e = rw e

  pub length_some : (n ≡ 0 → ⊥) → last_end revision 0 (fields_of row.subs.now) ≡ sb_length_by (shape_says row) revision n
  unfolding sb_length_by
  length_some e = rw (ne_eqb n 0 e)

  pub sizes_are : {s m : ℕ} → s ≡ sb_length_by (shape_says row) revision n → m ≡ last_end revision 14 (fields_of row.body.now)
      → Sizing (shape_says row) revision n (record { sub = s; end = m + n * s; all = 4 * ((m + n * s + 3) / 4) })
  unfolding block_end_by
  sizes_are e d = record { sub = e; end = rw (e, d); all = rw (e, d) }

pub subs_bound : (n s : ℕ) → n ≤ 255 → s ≤ 65543 → n * s ≤ 255 * 65543
subs_bound n s a b = mul-le-mul a b

-- SBLength and the end, of a draft without sub-blocks and of one with some
module _ (r : BlockRow) (d : Draft) where
  pub sub_none : length d.subs ≡ 0 → sb_length r d ≡ 0
  unfolding sb_length_by
  sub_none e = rw e

  pub sub-some : 0 < length d.subs → sb_length r d ≡ last_end d.revision 0 r.subs
  unfolding sb_length_by
  sub-some l = rw (ne_eqb (length d.subs) 0 (λ e. omega arith))

  pub end_alone : length d.subs ≡ 0 → block_end r d ≡ last_end d.revision 14 r.body
  unfolding block_end_by
  end_alone e = rw (e, zero-mul (sb_length_by r d.revision 0)) (omega arith)

  pub body_within : last_end d.revision 14 r.body ≤ block_end r d
  unfolding block_end_by
  body_within = omega arith

-- W9: rounding up does not go below
pub round-holds : (n : ℕ) → n ≤ round_up n
round-holds n = omega arith
