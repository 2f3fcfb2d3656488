-- `table::trailer::file_ok` meets its contract: too short, too many rows for the size, or each rule tested.
-- Assumes nothing.
use mathlib.Core.Path.{◌∙◌, sym}
use native.Mathlib.Omega.{arith}
use lib.Seq.{length-take-le}
use Rattle.table.proofs.Laws as law
use Rattle.table.proofs.trailer.file_ok.Goals as goal

pub returns-then-n-lt20 : goal.returns-then-n-lt20
returns-then-n-lt20 c = law.file_short _ c.if-n-lt20.true

pub returns-then-n-back : goal.returns-then-n-back
returns-then-n-back c = law.file_over _ (omega arith)

pub slice_bounds-crc_of-end : goal.slice_bounds-crc_of-end
slice_bounds-crc_of-end c = sym (length-take-le _ _ (omega arith))

pub returns : goal.returns
returns c =
    law.file_rest _ (omega arith) c.block_count-r.ensures.0
    c.field_count-fields.ensures
    (c.from-to_blocks.ensures ∙ c.u2.ensures)
    (c.from-to_fields.ensures ∙ c.u2-2.ensures)
    c.u2-sum.ensures c.crc_of-crc.ensures c.closes-mark.ensures
