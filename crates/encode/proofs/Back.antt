-- The rows of a file read back: its field rows, its block rows as they stand, its blocks.
-- Assumes nothing.
use mathlib.Core.List.{List, [], ◌∷◌, ◌++◌, map, append_assoc}
use mathlib.Core.Path.{◌≡◌, refl, ap, ◌∙◌}
use Prim.Native.Nat.{ℕ, ◌+◌, ◌*◌}
use native.Mathlib.Omega.{arith}
use lib.ListN.{length, get_or, drop}
use Rattle.rows.specs.declared.FieldRow.{FieldRow}
use Rattle.rows.specs.Places.{blocks_at, field_at, row_from, row_at}
use Rattle.table.specs.Lists.{tabulate}
use Rattle.table.specs.Rows.{BlockRow}
use Rattle.table.specs.Decode.{block_of}
use Rattle.encode.specs.Encode.{u2_bytes, field_bytes, fields_part, rows_part}
use Rattle.encode.proofs.Reading.{next, here, onward, beyond, two_at}
use Rattle.encode.proofs.Lengths.{length_fields}
use Rattle.encode.proofs.Laid.{row_for, rows_for}

fields_back : (t : List ℕ) (i : ℕ) (fs : List FieldRow) (rest : List ℕ) → drop (4 * i) t ≡ field_bytes fs ++ rest → tabulate (field_at t) i (length fs) ≡ fs
unfolding tabulate field_at field_bytes
fields_back t i [] rest e = refl
fields_back t i (f ∷ fs) rest e =
    let a : get_or t (4 * i) 0 ≡ f.offset = here t (4 * i) e in
    let b : get_or t (4 * i + 1) 0 ≡ f.kind = next t (4 * i) e 1 in
    let c : get_or t (4 * i + 2) 0 ≡ f.first = next t (4 * i) e 2 in
    let d : get_or t (4 * i + 3) 0 ≡ f.mark = next t (4 * i) e 3 in
    let n : 4 * i + 4 ≡ 4 * (i + 1) = omega arith in
    let g : drop (4 * (i + 1)) t ≡ field_bytes fs ++ rest = rw (← n) (onward t (4 * i) e 4) in
    rw (a, b, c, d, fields_back t (i + 1) fs rest g)

row_back : (t : List ℕ) (p before : ℕ) (b : BlockRow) (rest : List ℕ)
    → drop p t ≡ u2_bytes b.number ++ (b.highest ∷ length b.body ∷ (u2_bytes before ++ (length b.subs ∷ b.firsts ∷ rest))) → row_from t p ≡ row_for before b
unfolding row_from row_for u2_bytes
row_back t p before b rest e =
    rw (two_at t p b.number e, next t p e 2, next t p e 3, two_at t (p + 4) before (onward t p e 4), next t p e 6, next t p e 7)

pub rows_back : (t : List ℕ) (before i : ℕ) (bs : List BlockRow) (rest : List ℕ) → drop (blocks_at t + 8 * i) t ≡ rows_part before bs ++ rest
    → tabulate (row_at t) i (length bs) ≡ rows_for before bs
unfolding tabulate row_at rows_part rows_for u2_bytes
rows_back t before i [] rest e = refl
rows_back t before i (b ∷ bs) rest e =
    let more = before + (length b.body + length b.subs) in
    let p = blocks_at t + 8 * i in
    let n : blocks_at t + 8 * i + 8 ≡ blocks_at t + 8 * (i + 1) = omega arith in
    let g : drop (blocks_at t + 8 * (i + 1)) t ≡ rows_part more bs ++ rest = rw (← n) (onward t p e 8) in
    rw (row_back t p before b (rows_part more bs ++ rest) e, rows_back t more (i + 1) bs rest g)

pub blocks_back : (t : List ℕ) (before : ℕ) (bs : List BlockRow) (rest : List ℕ) → drop (4 * before) t ≡ fields_part bs ++ rest
    → map (block_of t) (rows_for before bs) ≡ bs
unfolding fields_part rows_for row_for block_of
blocks_back t before [] rest e = refl
blocks_back t before (b ∷ bs) rest e =
    let n = length b.body in
    let m = length b.subs in
    let body = field_bytes b.body in
    let subs = field_bytes b.subs in
    let after = fields_part bs ++ rest in
    let g : drop (4 * before) t ≡ body ++ (subs ++ after) =
    e ∙ append_assoc body (subs ++ fields_part bs) rest ∙ ap (λ (l : List ℕ). body ++ l) (append_assoc subs (fields_part bs) rest) in
    let h : drop (4 * (before + n)) t ≡ subs ++ after =
    beyond t (4 * before) body (subs ++ after) g (4 * (before + n)) (omega (arith, length_fields b.body)) in
    let k : drop (4 * (before + (n + m))) t ≡ after =
    beyond t (4 * (before + n)) subs after h (4 * (before + (n + m))) (omega (arith, length_fields b.subs)) in
    rw (fields_back t before b.body (subs ++ after) g, fields_back t (before + n) b.subs after h, blocks_back t (before + (n + m)) bs rest k)
