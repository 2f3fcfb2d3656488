-- No block is over 65,532 bytes: an offset, N and SBLength are bytes each, and a type has at most eight. It holds of a row of two levels
-- too, by which nothing is written: its body ends by 20.
-- Assumes nothing.
use mathlib.Core.Bool.{Bool, true, ◌&&◌}
use mathlib.Core.List.{List, [], ◌∷◌, map}
use mathlib.Core.Path.{◌≡◌, refl}
use Prim.Native.Nat.{ℕ, zero, suc, ◌+◌, ◌*◌, ◌≤◌}
use native.Mathlib.Nat.{mul-le-mul}
use native.Mathlib.Omega.{arith}
use lib.Dec.{leb}
use lib.ListN.{length}
use borrow.Author.Tests.{leb-true, le-leb, ne_eqb}
use Rattle.wire.specs.Range.{Bytes}
use Rattle.kinds.proofs.Types.{size_most}
use Rattle.rows.specs.declared.FieldRow.{FieldRow}
use Rattle.rows.specs.declared.Row.{Row}
use Rattle.rows.specs.Places.{field_at}
use Rattle.table.specs.Lists.{tabulate, every}
use Rattle.table.specs.Rows.{BlockRow, ends, first_rows, second_rows, nested_row}
use Rattle.table.specs.Decode.{rows_of, block_of, decode}
use Rattle.table.specs.Rules.{offset_ok, fields_ok, levels_ok, is_nested, is_triple, early, nest_ok, shape_ok, block_ok}
use Rattle.table.specs.Lookup.{carried, has_number, find_row}
use Rattle.table.proofs.Passed.{passed}
use Rattle.draft.specs.Draft.{Draft, last_end, block_end_by, sb_length, block_end}
use Rattle.writing.specs.Theorems.{NeverOver}
use Rattle.wire.proofs.Tests.{bool?, eq?, both, both_true}
use Rattle.draft.proofs.Ends.{end_alone}
use Rattle.writer.proofs.Rows.{RowKept, row_kept, body_sixteen}
use Rattle.writing.proofs.Rows.{first_passes}
use Rattle.draft.proofs.Admitted.{Admitted, admitted}

last_low : (most revision at : ℕ) (fs : List FieldRow) → at ≤ most → every (λ (f : FieldRow). leb (ends f) most) fs ≡ true
    → last_end revision at fs ≤ most
unfolding last_end every
last_low most revision at [] l e = l
last_low most revision at (f ∷ fs) l e =
    let k = both (leb (ends f) most) _ e in
    bool? (carried revision f)
    (λ t. rw t (last_low most revision (ends f) fs (leb-true _ _ k.0) k.1))
    (λ t. rw t (last_low most revision at fs l k.1))

-- a field of a table ends at 263 at the latest
abbrev ends_low : FieldRow → Bool
ends_low f = leb (ends f) 263

abbrev body_low : BlockRow → Bool
body_low r = every ends_low r.body

module _ (t : List ℕ) (bytes : Bytes t) where
  fields_low : (i k : ℕ) → every ends_low (tabulate (field_at t) i k) ≡ true
  unfolding every tabulate field_at
  fields_low i zero = refl
  fields_low i (suc k) =
      let f = field_at t i in
      both_true (le-leb (ends f) 263 (omega (arith, bytes (4 * i), size_most f.kind))) (fields_low (i + 1) k)

  rows_low : (rs : List Row) → every body_low (map (block_of t) rs) ≡ true
  unfolding every block_of
  rows_low [] = refl
  rows_low (r ∷ rs) = both_true (fields_low r.start r.bodies) (rows_low rs)

-- N sub-blocks of SBLength bytes
product_low : (n m : ℕ) → n ≤ 255 → m ≤ 255 → n * m ≤ 65025
product_low n m a b = mul-le-mul a b

end_low : (r : BlockRow) (d : Draft) → RowKept r → Admitted r d → body_low r ≡ true → sb_length r d ≤ 255 → block_end r d ≤ 65041
unfolding block_end_by
end_low r d k a low sub =
    eq? (length d.subs) 0
    (λ e. omega (arith, end_alone r d e, last_low 263 d.revision 14 r.body (omega arith) low))
    (λ n. omega (arith, body_sixteen r d k a (omega arith), product_low (length d.subs) (sb_length r d) a.few sub))

-- T20: the body of a row of two levels ends by 20
all_early : (r : BlockRow) → block_ok r ≡ true → (r.firsts ≡ 0 → ⊥) → every early r.body ≡ true
unfolding block_ok shape_ok nest_ok
all_early r ok two =
    let h = r.highest in
    let a = both (every offset_ok r.body && fields_ok h r.body && fields_ok h (first_rows r) && fields_ok h (second_rows r)) _ ok in
    let n : nest_ok r ≡ true = rw (ne_eqb r.firsts 0 two) at a.1 in
    (both (levels_ok r && is_nested (nested_row r) && is_triple r.body) _ n).1

end_two : (r : BlockRow) (d : Draft) → every early r.body ≡ true → Admitted r d → sb_length r d ≤ 255 → block_end r d ≤ 65045
unfolding block_end_by
end_two r d e a sub =
    omega (arith, last_low 20 d.revision 14 r.body (omega arith) e, product_low (length d.subs) (sb_length r d) a.few sub)

pub never_over : NeverOver
unfolding find_row decode
never_over t r d bytes ok found draft sub =
    let m = (passed t ok).meaning in
    let low = (first_passes (has_number d.number) body_low (decode t).rows r found (rows_low t bytes (rows_of t))).1 in
    let rules = (first_passes (has_number d.number) block_ok (decode t).rows r found m.blocks).1 in
    let a = admitted r d draft in
    eq? r.firsts 0 (λ one. omega (arith, end_low r d (row_kept r rules one) a low sub)) (λ two. omega (arith, end_two r d (all_early r rules two) a sub))
