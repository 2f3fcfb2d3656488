-- What the rules of a block row say of its fields: they stand one after the other, and N and SBLength are two bytes at 14.
-- Assumes nothing.
use mathlib.Core.Bool.{Bool, true, false, not, ◌&&◌, ◌||◌}
use mathlib.Core.List.{List, [], ◌∷◌}
use Rattle.std.proofs.Common.{Some}
use mathlib.Core.Path.{◌≡◌, refl, ap₂, ◌∙◌}
use Prim.Native.Nat.{ℕ, ◌%◌, ◌≤◌, ◌<◌}
use native.Mathlib.Omega.{arith}
use lib.Dec.{leb, eqb}
use lib.ListN.{length}
use borrow.Author.Tests.{eqb-true, eq-eqb, le-leb, lt-ltb}
use Rattle.kinds.specs.Types.{u1, size_of}
use Rattle.kinds.specs.Marks.{unmarked, is_do_not_use}
use Rattle.rows.specs.declared.FieldRow.{FieldRow}
use Rattle.rows.specs.Places.{field_row}
use Rattle.table.specs.Rows.{BlockRow, ends, first_rows, second_rows}
use Rattle.table.specs.Lists.{every, chain, neighbours}
use Rattle.table.specs.Rules.{offset_ok, apart, steady, first_ok, type_ok, mark_ok, is_count, is_pair, fields_ok, shape_ok, block_ok}
use Rattle.table.proofs.Levels.{one_first}
use Rattle.value.specs.Said.{unsigned}
use Rattle.block.specs.Block.{has_subs}
use Rattle.wire.proofs.Tests.{both, both_true, bool?, never}
use Rattle.pen.specs.Bytes.{little_bytes}
use Rattle.entry.specs.Bits.{bits_for, bits_of}
use Rattle.draft.specs.Draft.{Draft, last_end}
use Rattle.draft.proofs.Admitted.{Admitted}
use Rattle.lay.specs.Fields.{field_out, laid}
use Rattle.lay.specs.Code.{in_order}
use Rattle.lay.proofs.Laying.{laid_put, last_put}

-- T13 to T15, of a body as of sub-fields
pub record FieldsKept (at : ℕ) (fs : List FieldRow) : Type 0 where
  pub order : in_order at fs ≡ true
  pub types : every type_ok fs ≡ true
  pub marks : every mark_ok fs ≡ true

pub record RowKept (r : BlockRow) : Type 0 where
  pub body : FieldsKept 14 r.body
  pub subs : FieldsKept 0 r.subs
  pub pair : has_subs r ≡ true → is_pair r.body ≡ true

-- T12, T13: the order
chain_order : (f : FieldRow) (fs : List FieldRow) → chain apart f fs ≡ true → in_order (ends f) fs ≡ true
unfolding chain in_order
chain_order f [] e = refl
chain_order f (g ∷ gs) e = let a = both (apart f g) _ e in both_true a.0 (chain_order g gs a.1)

order_by : (at : ℕ) (fs : List FieldRow) → every (λ (f : FieldRow). leb at f.offset) fs ≡ true → neighbours apart fs ≡ true → in_order at fs ≡ true
unfolding every neighbours in_order
order_by at [] o e = refl
order_by at (f ∷ fs) o e = both_true (both (leb at f.offset) _ o).0 (chain_order f fs e)

from_zero : (fs : List FieldRow) → every (λ (f : FieldRow). leb 0 f.offset) fs ≡ true
unfolding every
from_zero [] = refl
from_zero (f ∷ fs) = both_true (le-leb 0 f.offset (omega arith)) (from_zero fs)

fields_kept : (at highest : ℕ) (fs : List FieldRow) → every (λ (f : FieldRow). leb at f.offset) fs ≡ true → fields_ok highest fs ≡ true
    → FieldsKept at fs
unfolding fields_ok
fields_kept at highest fs o e =
    let a = both (neighbours apart fs && neighbours steady fs && every (first_ok highest) fs && every type_ok fs) _ e in
    let b = both (neighbours apart fs && neighbours steady fs && every (first_ok highest) fs) _ a.0 in
    let c = both (neighbours apart fs && neighbours steady fs) _ b.0 in
    let d = both (neighbours apart fs) _ c.0 in
    record { order = order_by at fs o d.0; types = b.1; marks = a.1 }

or_right : (a b : Bool) → (a || b) ≡ true → not a ≡ true → b ≡ true
or_right true b e n = never n refl
or_right false b e n = e

-- of a row of one level
pub row_kept : (r : BlockRow) → block_ok r ≡ true → r.firsts ≡ 0 → RowKept r
unfolding block_ok shape_ok
row_kept r e one =
    let h = r.highest in
    let s = both (every offset_ok r.body && fields_ok h r.body && fields_ok h (first_rows r) && fields_ok h (second_rows r)) _ e in
    let a = both (every offset_ok r.body && fields_ok h r.body && fields_ok h (first_rows r)) _ s.0 in
    let b = both (every offset_ok r.body && fields_ok h r.body) _ a.0 in
    let c = both (every offset_ok r.body) _ b.0 in
    record {
      body = fields_kept 14 h r.body c.0 c.1;
      subs = fields_kept 0 h r.subs (from_zero r.subs) (rw (one_first r one) at b.1);
      pair = or_right (eqb (length r.subs) 0) (is_pair r.body) (rw (eq-eqb r.firsts 0 one) at s.1);
    }

-- N and SBLength
abbrev pub byte_row : ℕ → FieldRow
byte_row at = field_row at u1 0 unmarked

count_is : (at : ℕ) (f : FieldRow) → is_count at f ≡ true → f ≡ byte_row at
count_is at f e =
    let a = both (eqb f.offset at && eqb f.kind u1 && eqb f.first 0) _ e in
    let b = both (eqb f.offset at && eqb f.kind u1) _ a.0 in
    let c = both (eqb f.offset at) _ b.0 in
    let offset : f.offset ≡ at = eqb-true _ _ c.0 in
    let kind : f.kind ≡ u1 = eqb-true _ _ c.1 in
    let first : f.first ≡ 0 = eqb-true _ _ b.1 in
    let mark : f.mark ≡ unmarked = eqb-true _ _ a.1 in
    ap₂ (λ (x y : ℕ). field_row x y f.first f.mark) offset kind ∙ ap₂ (λ (x y : ℕ). field_row at u1 x y) first mark

pub pair_is : (fs : List FieldRow) → is_pair fs ≡ true → fs ≡ byte_row 14 ∷ byte_row 15 ∷ []
unfolding is_pair
pair_is [] e = never e refl
pair_is (n ∷ []) e = never e refl
pair_is (n ∷ s ∷ []) e = let a = both (is_count 14 n) _ e in ap₂ (λ (x y : FieldRow). x ∷ y ∷ []) (count_is 14 n a.0) (count_is 15 s a.1)
pair_is (n ∷ s ∷ f ∷ fs) e = never e refl

byte_out : (at n : ℕ) → n ≤ 255 → field_out (byte_row at) (Some (unsigned n)) ≡ n ∷ []
unfolding bits_of bits_for is_do_not_use size_of little_bytes
byte_out at n h =
    let m : n % 256 ≡ n = omega arith in
    rw (lt-ltb n 256 (omega arith), m)

module _ (fs : List FieldRow) (pair : is_pair fs ≡ true) (revision : ℕ) where
  pub pair_end : last_end revision 14 fs ≡ 16
  unfolding last_end size_of
  pair_end =
      rw (pair_is fs pair, last_put revision 14 (byte_row 14) (byte_row 15 ∷ []) [] (omega arith), last_put revision 15 (byte_row 15) [] [] (omega arith))

  pub pair_out : (n s : ℕ) → n ≤ 255 → s ≤ 255 → laid revision 14 fs (Some (unsigned n) ∷ Some (unsigned s) ∷ []) ≡ n ∷ s ∷ []
  unfolding laid size_of
  pair_out n s a b =
      rw (
        pair_is fs pair,
        laid_put revision 14 (byte_row 14) (byte_row 15 ∷ []) (Some (unsigned n) ∷ Some (unsigned s) ∷ []) (omega arith),
        laid_put revision 15 (byte_row 15) [] (Some (unsigned s) ∷ []) (omega arith),
        byte_out 14 n a,
        byte_out 15 s b,
      )

module _ (r : BlockRow) (d : Draft) (k : RowKept r) (a : Admitted r d) where
  -- sub-blocks begin at 16, where the body ends
  pub body_sixteen : 0 < length d.subs → last_end d.revision 14 r.body ≡ 16
  body_sixteen h =
      bool? (has_subs r) (λ t. pair_end r.body (k.pair t) d.revision)
      (λ t. let z = a.alone t in let f : ⊥ = omega arith in absurd f)
