-- `table::shaped` meets its contract: the parts of the bytes in fours are the row's field rows.
-- Assumes nothing.
use Rattle.std.proofs.Common.{◌≡◌, ◌+◌, ◌/◌, List, ℕ, length, refl, arith}
use Rattle.rows.specs.declared.FieldRow.{FieldRow}
use Rattle.table.specs.Rows.{BlockRow}
use Rattle.table.specs.Decode.{block_of}
use Rattle.table.proofs.Chunks.{part_rows}
use Rattle.table.proofs.shaped.Goals as goal

same_block : (n h f : ℕ) {b c s t : List FieldRow} → b ≡ c → s ≡ t
    → ◌≡◌ {A = BlockRow} (record { number = n; highest = h; body = b; subs = s; firsts = f }) (record { number = n; highest = h; body = c; subs = t; firsts = f })
same_block n h f p q = rw (p, q)

pub returns : goal.returns
unfolding block_of
returns c =
    let r = c.args.r in
    let t = c.args.t.now in
    let n = length t / 4 in
    let rows = c.as_chunks.result.0.now in
    let e = c.as_chunks.ensures.front in
    let at = r.start + r.bodies in
    same_block r.number r.highest r.firsts (part_rows t rows r.start at r.bodies n e refl (omega arith)) (part_rows t rows at (at + r.subs) r.subs n e refl (omega arith))
