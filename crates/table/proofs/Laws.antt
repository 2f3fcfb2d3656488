-- The file's rules as the code tests them, what the check tells, what `find` promises, and that a number has one row.
-- Assumes nothing.
use mathlib.Core.Bool.{Bool, true, false, ◌&&◌}
use mathlib.Core.List.{List, [], ◌∷◌}
use Rattle.std.proofs.Common.{None, Some, option_map}
use mathlib.Core.Path.{◌≡◌, refl, sym, ap, ◌∙◌}
use Prim.Native.Nat.{ℕ, zero, suc, ◌+◌, ◌*◌, ◌<◌, ◌≤◌}
use native.Mathlib.Omega.{arith}
use lib.Dec.{ltb, leb, eqb}
use lib.ListN.{length}
use borrow.Author.Tests.{ltb-true, le-leb, lt-leb, ne_eqb}
use Rattle.crc.specs.Crc.{crc_of}
use Rattle.rows.specs.declared.Row.{Row}
use Rattle.table.specs.Lists.{chain, neighbours, first_that, pick}
use Rattle.table.specs.Rows.{BlockRow}
use Rattle.rows.specs.Places.{block_count, field_count, row_at}
use Rattle.table.specs.Decode.{to_blocks, to_fields, crc_field, covered, rows_of, block_of, decode}
use Rattle.table.specs.Rules.{size_ok, count_ok, to_blocks_ok, to_fields_ok, crc_ok, closing_ok, file_ok, form_ok, rising_ok, meaning_ok, table_ok}
use Rattle.table.specs.Code.{row_pass}
use Rattle.table.specs.Answer.{check_version, check_refused, check_of}
use Rattle.table.specs.declared.Shape.{Shape}
use Rattle.table.specs.Shape.{shape_says}
use Rattle.table.specs.Lookup.{has_number, find_row, Finding}
use Rattle.table.specs.Theorems.{OneRow}
use Rattle.table.proofs.Lists.{first_map}
use Rattle.table.proofs.Fused.{rows_are}
use Rattle.table.proofs.Loops.{numbered}
use Rattle.table.proofs.Passed.{passed, stands}
use Rattle.wire.proofs.Tests.{both}

-- the file's rules
module _ (t : List ℕ) where
  pub file_short : length t < 20 → false ≡ file_ok t
  unfolding file_ok
  file_short h = rw (lt-leb 20 (length t) h)

  pub file_over : length t < 12 + 8 * block_count t → false ≡ file_ok t
  unfolding file_ok
  file_over h =
      let n : (4 * field_count t + (12 + 8 * block_count t) ≡ length t → ⊥) = λ q. omega arith in
      let e : eqb (4 * field_count t + (12 + 8 * block_count t)) (length t) ≡ false = ne_eqb _ _ n in
      rw e (tail (size_ok t) (count_ok t) (to_blocks_ok t) (to_fields_ok t) (crc_ok t) (closing_ok t)) where
        tail : (a b c d e f : Bool) → false ≡ (a && false && b && c && d && e && f)
        tail true b c d e f = refl
        tail false b c d e f = refl

  pub file_rest : {r k x y s c : ℕ} {m : Bool} → 20 ≤ length t → r ≡ block_count t → k ≡ field_count t → x ≡ to_blocks t → y ≡ to_fields t → s ≡ crc_field t
      → c ≡ crc_of (covered t) → m ≡ closing_ok t
      → (leb (length t) 8192 && eqb (4 * k + (12 + 8 * r)) (length t) && leb 1 r && eqb x (12 + 8 * r) && eqb y (length t) && eqb s c && m) ≡ file_ok t
  unfolding file_ok
  file_rest g fr fk fx fy fs fc fm = rw (le-leb 20 (length t) g, fk, fx, fy, fs, fc, fm, fr)

-- what the check tells
module _ (t : List ℕ) where
  pub told_file : file_ok t ≡ false → check_refused 4 ≡ check_of t
  unfolding check_of table_ok form_ok
  told_file e = rw e

  table-by : file_ok t ≡ true → (a : Bool) → a ≡ row_pass t 0 0 (field_count t) (rows_of t) → table_ok t ≡ a
  unfolding table_ok form_ok meaning_ok decode
  table-by e a b = rw e (rows_are t (rows_of t) (field_count t) ∙ sym b)

  pub told_rows : file_ok t ≡ true → {a : Bool} → a ≡ row_pass t 0 0 (field_count t) (rows_of t) → a ≡ false → check_refused 4 ≡ check_of t
  unfolding check_of
  told_rows e {a} b f = rw (table-by e a b, f)

  pub told_version : file_ok t ≡ true → {a : Bool} → a ≡ row_pass t 0 0 (field_count t) (rows_of t) → a ≡ true → {v : ℕ} → v ≡ (decode t).version
      → check_version v ≡ check_of t
  unfolding check_of
  told_version e {a} b f g = rw (table-by e a b, f, g)

-- what `find` promises
module _ (t : List ℕ) (n : ℕ) where
  find_is : find_row (decode t) n ≡ option_map (block_of t) (first_that (numbered n) (rows_of t))
  unfolding find_row decode block_of
  find_is = first_map (block_of t) (has_number n) (rows_of t)

  pub found_at : table_ok t ≡ true → {r : Row} {i : ℕ} {s : Shape} → first_that (numbered n) (rows_of t) ≡ Some r → r ≡ row_at t i → i < block_count t
      → shape_says s ≡ block_of t r → Finding t n (Some s)
  found_at ok e g h m =
      record { is = ap Some m ∙ sym (find_is ∙ ap (option_map (block_of t)) e); stands = stands t ok _ h (m ∙ ap (block_of t) g) }

  pub found_nothing : first_that (numbered n) (rows_of t) ≡ None → Finding t n None
  found_nothing e = record { is = sym (find_is ∙ ap (option_map (block_of t)) e); stands = tt }

-- a number has one row
abbrev below : BlockRow → BlockRow → Bool
below b c = ltb b.number c.number

later : (x : BlockRow) (bs : List BlockRow) → chain below x bs ≡ true → (j : ℕ) (b : BlockRow) → pick bs j ≡ Some b → x.number < b.number
unfolding chain pick
later x [] e j b p = let z : ◌≡◌ {A = ℕ} 0 1 = cc in absurd (omega arith)
later x (y ∷ ys) e zero b p =
    let l : x.number < y.number = ltb-true _ _ (both (below x y) _ e).0 in
    let q : y ≡ b = cc in
    let m : y.number ≡ b.number = ap (λ (c : BlockRow). c.number) q in
    omega arith
later x (y ∷ ys) e (suc j) b p =
    let a = both (below x y) _ e in
    let l : x.number < y.number = ltb-true _ _ a.0 in
    let m = later y ys a.1 j b p in
    omega arith

tail-rises : (x : BlockRow) (bs : List BlockRow) → chain below x bs ≡ true → neighbours below bs ≡ true
unfolding chain neighbours
tail-rises x [] e = refl
tail-rises x (y ∷ ys) e = (both (below x y) _ e).1

one : (bs : List BlockRow) → neighbours below bs ≡ true → (i j : ℕ) (a b : BlockRow) → pick bs i ≡ Some a → pick bs j ≡ Some b → a.number ≡ b.number → i ≡ j
unfolding pick neighbours
one [] e i j a b p q s = let z : ◌≡◌ {A = ℕ} 0 1 = cc in absurd (omega arith)
one (x ∷ xs) e zero zero a b p q s = refl
one (x ∷ xs) e zero (suc j) a b p q s =
    let l = later x xs e j b q in
    let m : x ≡ a = cc in
    let k : x.number ≡ a.number = ap (λ (c : BlockRow). c.number) m in
    absurd (omega arith)
one (x ∷ xs) e (suc i) zero a b p q s =
    let l = later x xs e i a p in
    let m : x ≡ b = cc in
    let k : x.number ≡ b.number = ap (λ (c : BlockRow). c.number) m in
    absurd (omega arith)
one (x ∷ xs) e (suc i) (suc j) a b p q s = ap suc (one xs (tail-rises x xs e) i j a b p q s)

pub one_row : OneRow
unfolding rising_ok
one_row t ok i j a b p q s = one (decode t).rows (passed t ok).meaning.rising i j a b p q s
