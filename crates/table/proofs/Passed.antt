-- What a file, a meaning and a table that pass say: each rule by its name, and the places of the rows.
-- Assumes nothing.
use mathlib.Core.Bool.{true, ◌&&◌}
use mathlib.Core.List.{List}
use mathlib.Core.Path.{◌≡◌, sym, ◌∙◌}
use Prim.Native.Nat.{ℕ, zero, suc, ◌+◌, ◌-◌, ◌*◌, ◌<◌, ◌≤◌}
use native.Mathlib.Nat.{zero-add, add-zero, not-suc-le-zero}
use native.Mathlib.Omega.{arith}
use lib.Dec.{leb, eqb}
use lib.ListN.{length, get_or}
use borrow.Author.Tests.{leb-true, eqb-true, le-leb, eq-eqb}
use Rattle.crc.specs.Crc.{crc_of}
use Rattle.rows.specs.declared.Row.{Row}
use Rattle.table.specs.Lists.{tabulate, every}
use Rattle.table.specs.Rows.{Table}
use Rattle.rows.specs.Places.{block_count, field_count, row_at}
use Rattle.table.specs.Decode.{to_blocks, to_fields, crc_field, covered, rows_of, block_of, decode}
use Rattle.table.specs.Rules.{size_ok, parts_ok, count_ok, to_blocks_ok, to_fields_ok, crc_ok, closing_ok, file_ok, index_ok, used_fields, used_ok, form_ok}
use Rattle.table.specs.Rules.{number_ok, rising_ok, highest_ok, block_ok, meaning_ok, table_ok}
use Rattle.table.specs.declared.Shape.{Shape}
use Rattle.table.specs.Shape.{shape_says}
use Rattle.table.specs.Lookup.{Stands}
use Rattle.table.proofs.Lists.{every_at_lem, every_map}
use Rattle.wire.proofs.Tests.{both, both_true}

pub record File (t : List ℕ) : Type 0 where
  pub least : 20 ≤ length t
  pub most : length t ≤ 8192
  pub parts : 4 * field_count t + (12 + 8 * block_count t) ≡ length t
  pub count : 1 ≤ block_count t
  pub blocks : to_blocks t ≡ 12 + 8 * block_count t
  pub fields : to_fields t ≡ length t
  pub crc : crc_field t ≡ crc_of (covered t)
  pub low : get_or t (length t - 2) 0 ≡ 0x42
  pub high : get_or t (length t - 1) 0 ≡ 0x54

pub file : (t : List ℕ) → file_ok t ≡ true → File t
unfolding file_ok
file t e =
    let a = both (size_ok t && parts_ok t && count_ok t && to_blocks_ok t && to_fields_ok t && crc_ok t) _ e in
    let b = both (size_ok t && parts_ok t && count_ok t && to_blocks_ok t && to_fields_ok t) _ a.0 in
    let c = both (size_ok t && parts_ok t && count_ok t && to_blocks_ok t) _ b.0 in
    let d = both (size_ok t && parts_ok t && count_ok t) _ c.0 in
    let f = both (size_ok t && parts_ok t) _ d.0 in
    let g = both (size_ok t) _ f.0 in
    let s = both (leb 20 (length t)) _ g.0 in
    let m = both (eqb (get_or t (length t - 2) 0) 0x42) _ a.1 in
    record {
      least = leb-true _ _ s.0;
      most = leb-true _ _ s.1;
      parts = eqb-true _ _ g.1;
      count = leb-true _ _ f.1;
      blocks = eqb-true _ _ d.1;
      fields = eqb-true _ _ c.1;
      crc = eqb-true _ _ b.1;
      low = eqb-true _ _ m.0;
      high = eqb-true _ _ m.1;
    }

-- the other way
pub file_ok_lem : (t : List ℕ) → File t → file_ok t ≡ true
unfolding file_ok
file_ok_lem t f =
    let size : size_ok t ≡ true = both_true (le-leb _ _ f.least) (le-leb _ _ f.most) in
    let closing : closing_ok t ≡ true = both_true (eq-eqb _ _ f.low) (eq-eqb _ _ f.high) in
    let counted = both_true (both_true size (eq-eqb _ _ f.parts)) (le-leb _ _ f.count) in
    both_true (both_true (both_true (both_true counted (eq-eqb _ _ f.blocks)) (eq-eqb _ _ f.fields)) (eq-eqb _ _ f.crc)) closing

pub record Meaning (tab : Table) : Type 0 where
  pub numbers : every number_ok tab.rows ≡ true
  pub rising : rising_ok tab.rows ≡ true
  pub highest : every highest_ok tab.rows ≡ true
  pub blocks : every block_ok tab.rows ≡ true

pub meaning : (tab : Table) → meaning_ok tab ≡ true → Meaning tab
unfolding meaning_ok
meaning tab e =
    let bs = tab.rows in
    let a = both (every number_ok bs && rising_ok bs && every highest_ok bs) _ e in
    let b = both (every number_ok bs && rising_ok bs) _ a.0 in
    let c = both (every number_ok bs) _ b.0 in
    record { numbers = c.0; rising = c.1; highest = b.1; blocks = a.1 }

pub record Passed (t : List ℕ) : Type 0 where
  pub file : File t
  pub index : index_ok 0 (rows_of t) ≡ true
  pub used : used_fields (rows_of t) ≡ field_count t
  pub meaning : Meaning (decode t)

pub passed : (t : List ℕ) → table_ok t ≡ true → Passed t
unfolding table_ok form_ok
passed t e =
    let rs = rows_of t in
    let a = both (file_ok t && index_ok 0 rs && used_ok (field_count t) rs) _ e in
    let b = both (file_ok t && index_ok 0 rs) _ a.0 in
    let c = both (file_ok t) _ b.0 in
    record { file = file t c.0; index = c.1; used = eqb-true _ _ b.1; meaning = meaning (decode t) a.1 }

-- a row's field rows are among the counted ones
index_at : (f : ℕ → Row) (before i k j : ℕ) → index_ok before (tabulate f i k) ≡ true → j < k
    → (f (i + j)).start + ((f (i + j)).bodies + (f (i + j)).subs) ≤ before + used_fields (tabulate f i k)
unfolding index_ok used_fields tabulate
index_at f before i zero j e h = absurd (not-suc-le-zero h)
index_at f before i (suc k) zero e h =
    let a = both (eqb (f i).start before) _ e in
    let b : (f i).start ≡ before = eqb-true _ _ a.0 in
    rw add-zero (omega arith)
index_at f before i (suc k) (suc j) e h =
    let n : i + 1 + j ≡ i + suc j = omega arith in
    let more = (f i).bodies + (f i).subs in
    let c = index_at f (before + more) (i + 1) k j (both (eqb (f i).start before) _ e).1 (omega arith) in
    rw (← n) (omega (arith, c))

module _ (t : List ℕ) (ok : table_ok t ≡ true) (i : ℕ) (h : i < block_count t) where
  inside_at : (row_at t i).start + ((row_at t i).bodies + (row_at t i).subs) ≤ field_count t
  unfolding rows_of
  inside_at =
      let p = passed t ok in
      let a = index_at (row_at t) 0 0 (block_count t) i p.index h in
      let u : used_fields (tabulate (row_at t) 0 (block_count t)) ≡ field_count t = p.used in
      rw (zero-add i, zero-add (used_fields (tabulate (row_at t) 0 (block_count t))), u) at a

  rules_at : block_ok (block_of t (row_at t i)) ≡ true
  unfolding rows_of decode
  rules_at =
      let b = (passed t ok).meaning.blocks in
      let e : every (λ (r : Row). block_ok (block_of t r)) (tabulate (row_at t) 0 (block_count t)) ≡ true =
      sym (every_map (block_of t) block_ok (tabulate (row_at t) 0 (block_count t))) ∙ b in
      rw zero-add at (every_at_lem (row_at t) (λ (r : Row). block_ok (block_of t r)) 0 (block_count t) i e h)

  pub stands_in : {r : Row} → r ≡ row_at t i → r.start + r.bodies + r.subs ≤ field_count t
  stands_in {r} g = rw g (omega (arith, inside_at))

  pub stands : {s : Shape} → shape_says s ≡ block_of t (row_at t i) → Stands t s
  stands {s} g = record { index = i; within = h; is = g; inside = omega (arith, inside_at); rules = rw g rules_at }
