-- A table that passes, part by part: its meaning gives its bytes back.
-- Assumes nothing.
use mathlib.Core.Bool.{true}
use mathlib.Core.List.{List, [], ◌∷◌, ◌++◌, map, append_assoc}
use mathlib.Core.Path.{◌≡◌, sym, ap, ap₂, ◌∙◌}
use Prim.Native.Nat.{ℕ, zero, suc, ◌+◌, ◌-◌, ◌*◌, ◌/◌, ◌%◌, ◌≤◌}
use native.Mathlib.Omega.{arith}
use lib.Dec.{eqb}
use lib.ListN.{length, get_or, length-map}
use lib.Seq.{length-take-le}
use borrow.Author.Tests.{eqb-true}
use Rattle.wire.specs.Range.{Bytes}
use Rattle.wire.specs.Little.{little_at}
use Rattle.rows.specs.declared.Row.{Row}
use Rattle.table.specs.Lists.{tabulate}
use Rattle.rows.specs.Places.{block_count, blocks_at, field_count, field_at, row_from, row_at}
use Rattle.table.specs.Decode.{to_fields, covered, rows_of, block_of, decode}
use Rattle.encode.specs.Encode.{u2_bytes, field_bytes, fields_part, rows_part, unsealed, encode}
use Rattle.table.specs.Rules.{index_ok, used_fields, table_ok}
use Rattle.encode.specs.Theorems.{Decodes}
use Rattle.table.proofs.Lists.{length_tab}
use Rattle.encode.proofs.Parts as parts
use Rattle.encode.proofs.Parts.{part}
use Rattle.table.proofs.Passed.{Passed, passed}
use Rattle.wire.proofs.Tests.{both}

module _ (t : List ℕ) (bytes : Bytes t) where
  -- a number's two bytes are the two bytes that it was read from
  two_part : (p : ℕ) → p + 2 ≤ length t → u2_bytes (little_at 2 t p) ≡ part t p 2
  unfolding u2_bytes little_at
  two_part p h =
      let a = bytes p in
      let b = bytes (p + 1) in
      let e : (get_or t p 0 + 256 * (get_or t (p + 1) 0 + 256 * 0)) % 256 ≡ get_or t p 0 = omega arith in
      let g : (get_or t p 0 + 256 * (get_or t (p + 1) 0 + 256 * 0)) / 256 ≡ get_or t (p + 1) 0 = omega arith in
      ap₂ (λ (x y : ℕ). x ∷ y ∷ []) e g ∙ sym (parts.part_two t p h)

  -- Field rows.
  field_part : (i k : ℕ) → 4 * (i + k) ≤ length t → field_bytes (tabulate (field_at t) i k) ≡ part t (4 * i) (4 * k)
  unfolding field_bytes tabulate field_at
  field_part i zero h = sym (parts.part_none t (4 * i))
  field_part i (suc k) h =
      let n : 4 * suc k ≡ 4 + 4 * k = omega arith in
      let m : 4 * (i + 1) ≡ 4 * i + 4 = omega arith in
      let f = field_part (i + 1) k (omega arith) in
      sym (ap (part t (4 * i)) n ∙ parts.part_add t (4 * i) 4 (4 * k) ∙ rw (parts.four t (4 * i) (omega arith), f, m))

  fields_part_lem : (before : ℕ) (rs : List Row) → index_ok before rs ≡ true → 4 * (before + used_fields rs) ≤ length t
      → fields_part (map (block_of t) rs) ≡ part t (4 * before) (4 * used_fields rs)
  unfolding fields_part index_ok used_fields block_of
  fields_part_lem before [] e h = sym (parts.part_none t (4 * before))
  fields_part_lem before (r ∷ rs) e h =
      let a = both (eqb r.start before) _ e in
      let s : r.start ≡ before = eqb-true _ _ a.0 in
      let n : 4 * (r.bodies + r.subs + used_fields rs) ≡ 4 * r.bodies + (4 * r.subs + 4 * used_fields rs) = omega arith in
      let p : 4 * before + 4 * r.bodies ≡ 4 * (r.start + r.bodies) = omega arith in
      let q : 4 * (r.start + r.bodies) + 4 * r.subs ≡ 4 * (before + (r.bodies + r.subs)) = omega arith in
      let o : 4 * before ≡ 4 * r.start = omega arith in
      let f = field_part r.start r.bodies (omega arith) in
      let g = field_part (r.start + r.bodies) r.subs (omega arith) in
      let k = fields_part_lem (before + (r.bodies + r.subs)) rs a.1 (omega arith) in
      sym (ap (part t (4 * before)) n ∙ parts.part_add t (4 * before) (4 * r.bodies) (4 * r.subs + 4 * used_fields rs)
      ∙ rw (p, parts.part_add t (4 * (r.start + r.bodies)) (4 * r.subs) (4 * used_fields rs), q, ← k, ← g, o, ← f))

  -- Block rows.
  row_part : (p : ℕ) (rest : List ℕ) → p + 8 ≤ length t
      → (u2_bytes (row_from t p).number
      ++ ((row_from t p).highest ∷ (row_from t p).bodies ∷ (u2_bytes (row_from t p).start ++ ((row_from t p).subs ∷ (row_from t p).firsts ∷ rest)))) ≡ part t p 8 ++ rest
  unfolding row_from
  row_part p rest h =
      let a : p + 2 + 1 ≡ p + 3 = omega arith in
      let b : p + 2 + 2 ≡ p + 4 = omega arith in
      let c : p + 4 + 2 ≡ p + 6 = omega arith in
      let d : p + 6 + 1 ≡ p + 7 = omega arith in
      let split = parts.part_add t p 2 6 in
      let split₂ = parts.part_add t (p + 2) 2 4 in
      let split₄ = parts.part_add t (p + 4) 2 2 in
      let u2Bytes₂ = parts.part_two t (p + 2) (omega arith) in
      let u2Bytes₆ = parts.part_two t (p + 6) (omega arith) in
      sym (rw (split, split₂, b, split₄, c, ← two_part p (omega arith), ← two_part (p + 4) (omega arith), u2Bytes₂, u2Bytes₆, a, d) (simp append_assoc))

  rows_part_lem : (before i k : ℕ) → index_ok before (tabulate (row_at t) i k) ≡ true → blocks_at t + 8 * (i + k) ≤ length t
      → rows_part before (map (block_of t) (tabulate (row_at t) i k)) ≡ part t (blocks_at t + 8 * i) (8 * k)
  unfolding rows_part index_ok tabulate block_of row_at
  rows_part_lem before i zero e h = sym (parts.part_none t (blocks_at t + 8 * i))
  rows_part_lem before i (suc k) e h =
      let r = row_from t (blocks_at t + 8 * i) in
      let a = both (eqb r.start before) _ e in
      let s : r.start ≡ before = eqb-true _ _ a.0 in
      let n : 8 * suc k ≡ 8 + 8 * k = omega arith in
      let m : blocks_at t + 8 * (i + 1) ≡ blocks_at t + 8 * i + 8 = omega arith in
      let f = rows_part_lem (before + (r.bodies + r.subs)) (i + 1) k a.1 (omega arith) in
      rw (length_tab (field_at t) r.start r.bodies, length_tab (field_at t) (r.start + r.bodies) r.subs, f, ← s, m, n)
      (row_part (blocks_at t + 8 * i) (part t (blocks_at t + 8 * i + 8) (8 * k)) (omega arith) ∙ sym (parts.part_add t (blocks_at t + 8 * i) 8 (8 * k)))

  -- The whole file.
  module _ (ok : table_ok t ≡ true) where
    all : Passed t
    all = passed t ok

    pub length_rows : length (decode t).rows ≡ block_count t
    unfolding decode rows_of
    length_rows = length-map (tabulate (row_at t) 0 (block_count t)) (block_of t) ∙ length_tab (row_at t) 0 (block_count t)

    rows_are_part : fields_part (decode t).rows ++ rows_part 0 (decode t).rows ≡ part t 0 (length t - 12)
    unfolding decode rows_of
    rows_are_part =
        let f = all.file in
        let e : blocks_at t ≡ 4 * field_count t = omega arith in
        let n : length t - 12 ≡ 4 * field_count t + 8 * block_count t = omega arith in
        let u : used_fields (tabulate (row_at t) 0 (block_count t)) ≡ field_count t = all.used in
        let a = fields_part_lem 0 (tabulate (row_at t) 0 (block_count t)) all.index (rw u (omega arith)) in
        let b = rows_part_lem 0 0 (block_count t) all.index (omega arith) in
        let z : blocks_at t + 8 * 0 ≡ 0 + 4 * field_count t = omega arith in
        rw (a, b, u, n, z) (sym (parts.part_add t 0 (4 * field_count t) (8 * block_count t)))

    unsealed_is : unsealed (decode t) ≡ covered t
    unfolding unsealed decode part
    unsealed_is =
        let f = all.file in
        let T = length t in
        let l : length (part t 0 (T - 12)) + 12 ≡ to_fields t = ap (λ (n : ℕ). n + 12) (length-take-le (T - 12) t (omega arith)) ∙ omega arith in
        let version = two_part (T - 12) (omega arith) in
        let count = two_part (T - 10) (omega arith) in
        let blocks = two_part (T - 8) (omega arith) in
        let fields = two_part (T - 6) (omega arith) in
        let four = parts.glue t (T - 8) 2 (T - 6) 2 4 (omega arith) (omega arith) in
        let six = parts.glue t (T - 10) 2 (T - 8) 4 6 (omega arith) (omega arith) in
        let eight = parts.glue t (T - 12) 2 (T - 10) 6 8 (omega arith) (omega arith) in
        rw (rows_are_part, length_rows, l, ← f.blocks, version, count, blocks, fields, four, six, eight)
        (parts.glue t 0 (T - 12) (T - 12) 8 (T - 4) (omega arith) (omega arith))

    gives_back : encode (decode t) ≡ t
    unfolding encode part
    gives_back =
        let f = all.file in
        let T = length t in
        let a : T - 2 + 1 ≡ T - 1 = omega arith in
        let closed : part t (T - 2) 2 ≡ 0x42 ∷ 0x54 ∷ [] = rw (parts.part_two t (T - 2) (omega arith), a, f.low, f.high) in
        rw (unsealed_is, ← f.crc, two_part (T - 4) (omega arith), ← closed, parts.glue t (T - 4) 2 (T - 2) 2 4 (omega arith) (omega arith))
        (parts.glue t 0 (T - 4) (T - 4) 4 T (omega arith) (omega arith) ∙ parts.part_all t)

pub decodes : Decodes
decodes t bytes ok = gives_back t bytes ok
