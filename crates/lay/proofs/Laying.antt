-- A field's bytes, and fields one after the other: how long they are, and a loop that stores them, where what is left gives the whole.
-- Assumes nothing.
use mathlib.Core.Bool.{Bool, true, ◌&&◌}
use Rattle.std.proofs.Common.{None}
use mathlib.Core.List.{List, [], ◌∷◌, ◌++◌, append_assoc}
use mathlib.Core.Path.{◌≡◌, refl, sym, ap, ◌∙◌}
use Prim.Native.Nat.{ℕ, ◌+◌, ◌-◌, ◌≤◌, ◌<◌}
use native.Mathlib.Nat.{zero-add}
use native.Mathlib.Omega.{arith}
use lib.Dec.{leb}
use lib.ListN.{length, get_or, drop, length-append, length-replicate}
use lib.Seq.{sets, length-sets}
use borrow.Author.Tests.{leb-true, le-leb, lt-leb}
use Rattle.kinds.specs.Types.{size_of}
use Rattle.rows.specs.declared.FieldRow.{FieldRow}
use Rattle.rows.specs.Places.{field_of}
use Rattle.table.specs.Lists.{every, is_some}
use Rattle.table.specs.Shape.{fields_of}
use Rattle.table.specs.Rows.{ends}
use Rattle.table.proofs.FieldRows.{one_left}
use Rattle.wire.proofs.Tests.{both, both_true, lt?}
use Rattle.pen.specs.Bytes.{little_bytes}
use Rattle.pen.proofs.Stores.{length_little, sets_append}
use Rattle.entry.specs.Wanted.{Wanted}
use Rattle.entry.specs.Bits.{bits_of, wanted_ok, list_ok}
use Rattle.draft.specs.Draft.{last_end}
use Rattle.lay.specs.Fields.{field_out, field_bits, zeros, laid}
use Rattle.lay.specs.Code.{in_order}

pub length_field : (f : FieldRow) (w : Wanted) → length (field_out f w) ≡ size_of f.kind
length_field f w = length_little (size_of f.kind) (field_bits f w)

-- the stores of a field and of the zeros before it, by the size and the bits that the code found
module _ (out : List ℕ) (base from : ℕ) (f : FieldRow) (w : Wanted) where
  pub field_stored : from ≤ f.offset → (x : ℕ) → little_bytes (size_of f.kind) x ≡ field_out f w → {n : ℕ} → n ≡ size_of f.kind
      → {mid next : List ℕ} → mid ≡ sets out (base + from) (zeros (f.offset - from)) → next ≡ sets mid (base + f.offset) (little_bytes n x)
      → next ≡ sets out (base + from) (zeros (f.offset - from) ++ field_out f w)
  field_stored h x g {n} e {mid} {next} j k =
      let gap = zeros (f.offset - from) in
      let m : base + f.offset ≡ base + from + length gap = omega (arith, length-replicate {A = ℕ} (f.offset - from) 0) in
      k ∙ rw (j, e, g, m) (sets_append out (base + from) gap (field_out f w))

-- what starts after b starts after a
pub order_earlier : {a b : ℕ} (fs : List FieldRow) → a ≤ b → in_order b fs ≡ true → in_order a fs ≡ true
unfolding in_order
order_earlier [] h e = refl
order_earlier {a} {b} (f ∷ fs) h e =
    let x = both (leb b f.offset) _ e in
    let n : b ≤ f.offset = leb-true _ _ x.0 in
    both_true (le-leb a f.offset (omega arith)) x.1

module _ (at : ℕ) (f : FieldRow) (fs : List FieldRow) (e : in_order at (f ∷ fs) ≡ true) where
  pub order_first : at ≤ f.offset
  unfolding in_order
  order_first = leb-true _ _ (both (leb at f.offset) _ e).0

  pub order_rest : in_order (ends f) fs ≡ true
  unfolding in_order
  order_rest = (both (leb at f.offset) _ e).1

  -- also where the first is left out
  pub order_skip : in_order at fs ≡ true
  order_skip = let h = order_first in order_earlier fs (omega arith) order_rest

-- a field that is carried, and one that is not
module _ (revision at : ℕ) (f : FieldRow) (fs : List FieldRow) (ws : List Wanted) where
  module _ (h : f.first ≤ revision) where
    pub laid_put : laid revision at (f ∷ fs) ws ≡ zeros (f.offset - at) ++ (field_out f (get_or ws 0 None) ++ laid revision (ends f) fs (drop 1 ws))
    unfolding laid
    laid_put = rw (le-leb f.first revision h)

    pub last_put : last_end revision at (f ∷ fs) ≡ last_end revision (ends f) fs
    unfolding last_end
    last_put = rw (le-leb f.first revision h)

  module _ (h : revision < f.first) where
    pub laid_skip : laid revision at (f ∷ fs) ws ≡ laid revision at fs (drop 1 ws)
    unfolding laid
    laid_skip = rw (lt-leb f.first revision h)

    pub last_skip : last_end revision at (f ∷ fs) ≡ last_end revision at fs
    unfolding last_end
    last_skip = rw (lt-leb f.first revision h)

module _ (revision : ℕ) where
  pub at_last : (at : ℕ) (fs : List FieldRow) → in_order at fs ≡ true → at ≤ last_end revision at fs
  unfolding last_end
  at_last at [] e = omega arith
  at_last at (f ∷ fs) e =
      lt? revision f.first
      (λ h. rw (last_skip revision at f fs [] h) (at_last at fs (order_skip at f fs e)))
      (λ h.
      let a = order_first at f fs e in
      let b = at_last (ends f) fs (order_rest at f fs e) in
      rw (last_put revision at f fs [] h) (omega (arith, b)))

  -- how long the fields are
  pub length_laid : (at : ℕ) (fs : List FieldRow) (ws : List Wanted) → in_order at fs ≡ true → at + length (laid revision at fs ws) ≡ last_end revision at fs
  unfolding laid last_end
  length_laid at [] ws e = omega arith
  length_laid at (f ∷ fs) ws e =
      lt? revision f.first
      (λ h. rw (laid_skip revision at f fs ws h, last_skip revision at f fs ws h) (length_laid at fs (drop 1 ws) (order_skip at f fs e)))
      (λ h.
      let a = order_first at f fs e in
      let rest = laid revision (ends f) fs (drop 1 ws) in
      let b : ends f + length rest ≡ last_end revision (ends f) fs = length_laid (ends f) fs (drop 1 ws) (order_rest at f fs e) in
      rw (
        laid_put revision at f fs ws h,
        last_put revision at f fs ws h,
        length-append (zeros (f.offset - at)) (field_out f (get_or ws 0 None) ++ rest),
        length-append (field_out f (get_or ws 0 None)) rest,
        length-replicate {A = ℕ} (f.offset - at) 0,
        length_field f (get_or ws 0 None),
      )
      (omega (arith, b)))

  -- in a sub-block
  pub length_sub : (fs : List FieldRow) (ws : List Wanted) → in_order 0 fs ≡ true → length (laid revision 0 fs ws) ≡ last_end revision 0 fs
  length_sub fs ws e = sym (zero-add (length (laid revision 0 fs ws))) ∙ length_laid 0 fs ws e

-- a loop that stores fields: what is left of them gives the whole
pub record Laying (revision base at : ℕ) (fs : List FieldRow) (ws : List Wanted) (out whole : List ℕ) (last : ℕ) : Type 0 where
  pub ordered : in_order at fs ≡ true
  pub allowed : list_ok revision fs ws ≡ true
  pub lasts : last_end revision at fs ≡ last
  pub long : length out ≡ length whole
  pub stores : sets out (base + at) (laid revision at fs ws) ≡ whole

pub laying_all : (revision base at : ℕ) (fs : List FieldRow) (ws : List Wanted) (out : List ℕ) → in_order at fs ≡ true → list_ok revision fs ws ≡ true
    → Laying revision base at fs ws out (sets out (base + at) (laid revision at fs ws)) (last_end revision at fs)
laying_all revision base at fs ws out e a =
    record { ordered = e; allowed = a; lasts = refl; long = sym (length-sets out (base + at) (laid revision at fs ws)); stores = refl }

module _ {revision base at : ℕ} {fs : List FieldRow} {ws : List Wanted} {out whole : List ℕ} {last : ℕ} (inv : Laying revision base at fs ws out whole last) where
  pub laying_long : base + at ≤ base + last
  laying_long = let a = at_last revision at fs inv.ordered in let b = inv.lasts in omega arith

  pub laying_end : fs ≡ [] → (at ≡ last) × (out ≡ whole)
  unfolding laid last_end
  laying_end e = (sym (ap (last_end revision at) e) ∙ inv.lasts, sym (ap (λ (x : List FieldRow). sets out (base + at) (laid revision at x ws)) e) ∙ inv.stores)

  module _ {f : FieldRow} {rest : List FieldRow} (e : fs ≡ f ∷ rest) where
    ordered_by : in_order at (f ∷ rest) ≡ true
    ordered_by = sym (ap (in_order at) e) ∙ inv.ordered

    lasts_by : last_end revision at (f ∷ rest) ≡ last
    lasts_by = sym (ap (last_end revision at) e) ∙ inv.lasts

    stores_by : sets out (base + at) (laid revision at (f ∷ rest) ws) ≡ whole
    stores_by = sym (ap (λ (x : List FieldRow). sets out (base + at) (laid revision at x ws)) e) ∙ inv.stores

    allowed_by : (wanted_ok revision f (get_or ws 0 None) && list_ok revision rest (drop 1 ws)) ≡ true
    unfolding list_ok
    allowed_by = sym (ap (λ (x : List FieldRow). list_ok revision x ws) e) ∙ inv.allowed

    pub put_allowed : f.first ≤ revision → {w : Wanted} → w ≡ get_or ws 0 None → is_some (bits_of f w) ≡ true
    unfolding wanted_ok
    put_allowed h i = rw i (rw (le-leb f.first revision h) at (both (wanted_ok revision f (get_or ws 0 None)) _ allowed_by).0)

    allowed_rest : {vs : List Wanted} → vs ≡ drop 1 ws → list_ok revision rest vs ≡ true
    allowed_rest g = rw g (both (wanted_ok revision f (get_or ws 0 None)) _ allowed_by).1

    pub put_from : at ≤ f.offset
    put_from = order_first at f rest ordered_by

    pub put_to : f.first ≤ revision → ends f ≤ last
    put_to h =
        let a = at_last revision (ends f) rest (order_rest at f rest ordered_by) in
        let b = sym (last_put revision at f rest ws h) ∙ lasts_by in
        omega arith

    -- by what the code has after each way through a turn
    module _ {vs : List Wanted} (g : vs ≡ drop 1 ws) {next : List ℕ} {to : ℕ} where
      pub laying_skip : revision < f.first → next ≡ out → to ≡ at → Laying revision base to rest vs next whole last
      laying_skip h j k =
          rw (j, k)
          record {
            ordered = order_skip at f rest ordered_by;
            allowed = allowed_rest g;
            lasts = sym (last_skip revision at f rest ws h) ∙ lasts_by;
            long = inv.long;
            stores = rw (g, ← laid_skip revision at f rest ws h) stores_by;
          }

      pub laying_put : f.first ≤ revision → {w : Wanted} → w ≡ get_or ws 0 None → next ≡ sets out (base + at) (zeros (f.offset - at) ++ field_out f w)
          → to ≡ ends f → Laying revision base to rest vs next whole last
      laying_put h {w} i j k =
          let a = put_from in
          let gap = zeros (f.offset - at) in
          let n : base + ends f ≡ base + at + length (gap ++ field_out f w) =
          omega (arith, length-append gap (field_out f w), length-replicate {A = ℕ} (f.offset - at) 0, length_field f w) in
          rw k
          record {
            ordered = order_rest at f rest ordered_by;
            allowed = allowed_rest g;
            lasts = sym (last_put revision at f rest ws h) ∙ lasts_by;
            long = ap length j ∙ length-sets out (base + at) (gap ++ field_out f w) ∙ inv.long;
            stores = rw (j, n, sets_append out (base + at) (gap ++ field_out f w) (laid revision (ends f) rest vs), append_assoc, g, i, ← laid_put revision at f rest ws h) stores_by;
          }

-- what holds of each list holds of the first, and of those behind it
pub every_one : {A : Type 0} (p : A → Bool) (xs : List A) {x : A} {rest : List A} → xs ≡ x ∷ rest → every p xs ≡ true → (p x ≡ true) × (every p rest ≡ true)
unfolding every
every_one p xs {x} {rest} e a = both (p x) (every p rest) (sym (ap (every p) e) ∙ a)

-- the next row of those that are left
pub rows_left : (rows : List (List ℕ)) (i : ℕ) (d : List ℕ) {x : FieldRow} → x ≡ field_of (get_or rows i d) → i < length rows
    → fields_of (drop i rows) ≡ x ∷ fields_of (drop (i + 1) rows)
rows_left rows i d e h = rw e (one_left rows i d h)
