-- The bytes of a file are bytes: each is below 256.
-- Assumes nothing.
use mathlib.Core.Bool.{Bool, true, false, ◌&&◌, cond, false≢true}
use mathlib.Core.List.{List, [], ◌∷◌, ◌++◌}
use mathlib.Core.Path.{◌≡◌, refl, ◌∙◌}
use Prim.Native.Nat.{ℕ, zero, suc, ◌+◌, ◌*◌, ◌/◌, ◌%◌, ◌<◌, ◌≤◌}
use native.Mathlib.Omega.{arith}
use lib.Dec.{ltb, leb}
use lib.ListN.{length, get_or, take, drop}
use borrow.Author.Tests.{ltb-true, ltb-false, leb-true, eqb-true, lt-ltb}
use Rattle.crc.specs.Crc.{crc_of}
use Rattle.crc.proofs.Linear.{crc_small}
use Rattle.rows.specs.declared.FieldRow.{FieldRow}
use Rattle.table.specs.Lists.{every, neighbours}
use Rattle.kinds.specs.Marks.{mark_fits}
use Rattle.table.specs.Rows.{BlockRow, Table, one_level, first_rows, second_rows, nested_row}
use Rattle.table.specs.Rules.{number_ok, highest_ok, offset_ok, apart, steady, first_ok, type_ok, mark_ok, fields_ok, block_ok}
use Rattle.table.specs.Rules.{pair_ok, levels_ok, is_nested, is_triple, nest_ok, shape_ok}
use Rattle.encode.specs.Encode.{u2_bytes, field_bytes, fields_part, rows_part, unsealed, encode}
use Rattle.encode.specs.Fits.{field_rows, u1_numbers, count_fits, offset_fits, block_fits}
use Rattle.kinds.proofs.Marks.{fits_none}
use Rattle.table.proofs.Passed.{Meaning}
use Rattle.encode.proofs.Room.{Room}
use Rattle.encode.proofs.File.{length_rows}
use Rattle.wire.proofs.Tests.{both, both_true}

abbrev is_byte : ℕ → Bool
is_byte x = ltb x 256

-- what fits in a u1 is a byte
small : (n : ℕ) → ltb n u1_numbers ≡ true → is_byte n ≡ true
small n e = let l : n < u1_numbers = ltb-true n u1_numbers e in lt-ltb n 256 (omega arith)

bytes_at : (xs : List ℕ) → every is_byte xs ≡ true → (j : ℕ) → get_or xs j 0 < 256
unfolding every
bytes_at [] e j = omega arith
bytes_at (x ∷ xs) e zero = ltb-true _ _ (both (is_byte x) _ e).0
bytes_at (x ∷ xs) e (suc j) = bytes_at xs (both (is_byte x) _ e).1 j

append : (xs ys : List ℕ) → every is_byte xs ≡ true → every is_byte ys ≡ true → every is_byte (xs ++ ys) ≡ true
unfolding every
append [] ys e f = f
append (x ∷ xs) ys e f = let a = both (is_byte x) _ e in both_true a.0 (append xs ys a.1 f)

two_small : (n : ℕ) → n < 65536 → every is_byte (u2_bytes n) ≡ true
unfolding every u2_bytes
two_small n h = both_true (lt-ltb (n % 256) 256 (omega arith)) (both_true (lt-ltb (n / 256) 256 (omega arith)) refl)

-- Field rows.

mark_small : (kind mark : ℕ) → mark_fits kind mark ≡ true → mark < 256
mark_small kind mark e = by (ltb 5 mark) refl where
  by : (b : Bool) → ltb 5 mark ≡ b → mark < 256
  by true h = absurd (false≢true (fits_none kind mark (ltb-true 5 mark h) ∙ e))
  by false h = let l : mark ≤ 5 = ltb-false 5 mark h in omega arith

each_small : (top : ℕ) → top ≤ 7 → (fs : List FieldRow) → every offset_fits fs ≡ true → every (first_ok top) fs ≡ true → every type_ok fs ≡ true
    → every mark_ok fs ≡ true → every is_byte (field_bytes fs) ≡ true
unfolding every field_bytes
each_small top h [] o r k m = refl
each_small top h (f ∷ fs) o r k m =
    let a = both (offset_fits f) _ o in
    let b = both (first_ok top f) _ r in
    let c = both (type_ok f) _ k in
    let d = both (mark_ok f) _ m in
    let first : f.first ≤ top = leb-true _ _ b.0 in
    let kind : f.kind ≤ 10 = leb-true _ _ (both (leb 1 f.kind) _ c.0).1 in
    let mark = mark_small f.kind f.mark d.0 in
    both_true (small f.offset a.0) (both_true (lt-ltb f.kind 256 (omega arith)) (both_true (lt-ltb f.first 256 (omega arith)) (both_true (lt-ltb f.mark 256 mark)
    (each_small top h fs a.1 b.1 c.1 d.1))))

-- of the rules on the rows of a level, those on each row
record Each (top : ℕ) (fs : List FieldRow) : Type 0 where
  firsts : every (first_ok top) fs ≡ true
  kinds : every type_ok fs ≡ true
  marks : every mark_ok fs ≡ true

each : (top : ℕ) (fs : List FieldRow) → fields_ok top fs ≡ true → Each top fs
unfolding fields_ok
each top fs e =
    let a = both (neighbours apart fs && neighbours steady fs && every (first_ok top) fs && every type_ok fs) _ e in
    let b = both (neighbours apart fs && neighbours steady fs && every (first_ok top) fs) _ a.0 in
    let c = both (neighbours apart fs && neighbours steady fs) _ b.0 in
    record { firsts = c.1; kinds = b.1; marks = a.1 }

fields_small : (top : ℕ) → top ≤ 7 → (fs : List FieldRow) → every offset_fits fs ≡ true → Each top fs → every is_byte (field_bytes fs) ≡ true
fields_small top h fs o e = each_small top h fs o e.firsts e.kinds e.marks

-- what holds of the rows of each level holds of all
joined : (p : FieldRow → Bool) (n : ℕ) (fs : List FieldRow) → every p (take n fs) ≡ true → every p (drop n fs) ≡ true → every p fs ≡ true
unfolding every
joined p zero fs e g = g
joined p (suc n) [] e g = refl
joined p (suc n) (f ∷ fs) e g = let a = both (p f) _ e in both_true a.0 (joined p n fs a.1 g)

both_levels : (p : FieldRow → Bool) (b : BlockRow) → every p (first_rows b) ≡ true → every p (second_rows b) ≡ true → every p b.subs ≡ true
unfolding first_rows second_rows
both_levels p b = by (one_level b) where
  by : (o : Bool) → every p (cond o b.subs (take b.firsts b.subs)) ≡ true → every p (cond o [] (drop b.firsts b.subs)) ≡ true
      → every p b.subs ≡ true
  by true e g = e
  by false e g = joined p b.firsts b.subs e g

each_of_both : (top : ℕ) (b : BlockRow) → Each top (first_rows b) → Each top (second_rows b) → Each top b.subs
each_of_both top b e g =
    record {
      firsts = both_levels (first_ok top) b e.firsts g.firsts;
      kinds = both_levels type_ok b e.kinds g.kinds;
      marks = both_levels mark_ok b e.marks g.marks;
    }

fields_part_small : (bs : List BlockRow) → every highest_ok bs ≡ true → every block_ok bs ≡ true → every block_fits bs ≡ true
    → every is_byte (fields_part bs) ≡ true
unfolding every fields_part block_ok block_fits
fields_part_small [] h k f = refl
fields_part_small (b ∷ bs) h k f =
    let top = b.highest in
    let c = both (highest_ok b) _ h in
    let l : b.highest ≤ 7 = leb-true _ _ c.0 in
    let d = both (block_ok b) _ k in
    let body = every offset_ok b.body && fields_ok top b.body in
    let g = both (body && fields_ok top (first_rows b) && fields_ok top (second_rows b)) _ d.0 in
    let s = both (body && fields_ok top (first_rows b)) _ g.0 in
    let i = both body _ s.0 in
    let j = both (every offset_ok b.body) _ i.0 in
    let subs = each_of_both top b (each top (first_rows b) i.1) (each top (second_rows b) s.1) in
    let m = both (block_fits b) _ f in
    let counts = count_fits b.body && count_fits b.subs in
    let n = both (counts && every offset_fits b.body) _ m.0 in
    let o = both counts _ n.0 in
    append (field_bytes b.body) (field_bytes b.subs ++ fields_part bs) (fields_small top l b.body o.1 (each top b.body j.1))
    (append (field_bytes b.subs) (fields_part bs) (fields_small top l b.subs n.1 subs) (fields_part_small bs c.1 d.1 m.1))

-- Block rows.

-- T19: the first level's rows are no more than the sub-field rows, of which there are so many as a byte says
firsts_small : (b : BlockRow) → block_ok b ≡ true → count_fits b.subs ≡ true → is_byte b.firsts ≡ true
unfolding block_ok shape_ok nest_ok
firsts_small b k f =
    let top = b.highest in
    let fields = every offset_ok b.body && fields_ok top b.body && fields_ok top (first_rows b) && fields_ok top (second_rows b) in
    by (one_level b) refl (both fields _ k).1
  where
    by : (o : Bool) → one_level b ≡ o → cond o (pair_ok b) (nest_ok b) ≡ true → is_byte b.firsts ≡ true
    by true e s = let z : b.firsts ≡ 0 = eqb-true _ _ e in lt-ltb b.firsts 256 (omega arith)
    by false e s =
        let a = both (levels_ok b && is_nested (nested_row b) && is_triple b.body) _ s in
        let c = both (levels_ok b && is_nested (nested_row b)) _ a.0 in
        let d = both (levels_ok b) _ c.0 in
        let l : b.firsts ≤ length b.subs = leb-true _ _ d.0 in
        let n : length b.subs < u1_numbers = ltb-true _ _ f in
        lt-ltb b.firsts 256 (omega arith)

rows_part_small : (before : ℕ) (bs : List BlockRow) → before + field_rows bs < 65536 → every number_ok bs ≡ true → every highest_ok bs ≡ true
    → every block_ok bs ≡ true → every block_fits bs ≡ true → every is_byte (rows_part before bs) ≡ true
unfolding every rows_part field_rows block_fits
rows_part_small before [] l n h k f = refl
rows_part_small before (b ∷ bs) l n h k f =
    let a = both (number_ok b) _ n in
    let c = both (highest_ok b) _ h in
    let o = both (block_ok b) _ k in
    let number : b.number ≤ 8191 = leb-true _ _ a.0 in
    let highest : b.highest ≤ 7 = leb-true _ _ c.0 in
    let d = both (block_fits b) _ f in
    let bodies = count_fits b.body in
    let subs = count_fits b.subs in
    let g = both (bodies && subs && every offset_fits b.body) _ d.0 in
    let i = both (bodies && subs) _ g.0 in
    let j = both bodies _ i.0 in
    let next = before + (length b.body + length b.subs) in
    let rest = rows_part_small next bs (omega arith) a.1 c.1 o.1 d.1 in
    let firsts = firsts_small b o.0 j.1 in
    append (u2_bytes b.number) _ (two_small b.number (omega arith)) (both_true (lt-ltb b.highest 256 (omega arith)) (both_true (small (length b.body) j.0)
    (append (u2_bytes before) _ (two_small before (omega arith)) (both_true (small (length b.subs) j.1) (both_true firsts rest)))))

-- The file.

module _ (tab : Table) (m : Meaning tab) (r : Room tab) where
  unsealed_small : every is_byte (unsealed tab) ≡ true
  unfolding unsealed
  unsealed_small =
      let bs = tab.rows in
      let count = length bs in
      let rows = fields_part bs ++ rows_part 0 bs in
      let fields = fields_part_small bs m.highest m.blocks r.blocks in
      let blocks = rows_part_small 0 bs (omega (arith, r.size)) m.numbers m.highest m.blocks r.blocks in
      append rows _ (append (fields_part bs) (rows_part 0 bs) fields blocks)
      (append (u2_bytes tab.version) _ (two_small tab.version r.version) (append (u2_bytes count) _ (two_small count (omega (arith, r.size)))
      (append (u2_bytes (12 + 8 * count)) _ (two_small (12 + 8 * count) (omega (arith, r.size))) (two_small (length rows + 12) (omega (arith, r.size, length_rows tab))))))

  file_small : every is_byte (encode tab) ≡ true
  unfolding encode crc_of every
  file_small =
      let u = unsealed_small in
      append (unsealed tab) _ u (append (u2_bytes (crc_of (unsealed tab))) (0x42 ∷ 0x54 ∷ []) (two_small (crc_of (unsealed tab)) (crc_small 0 (unsealed tab) (omega arith) (bytes_at (unsealed tab) u))) refl)

  pub bytes : (j : ℕ) → get_or (encode tab) j 0 < 256
  bytes = bytes_at (encode tab) file_small
