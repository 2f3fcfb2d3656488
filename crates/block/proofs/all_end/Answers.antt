-- `block::all_end` meets its contract: each of the rows passes.
-- Assumes nothing.
use Rattle.std.proofs.Common.{rules, tests, ◌∙◌}
use Rattle.std.proofs.lemmas.Iterator.{YieldsList-from_slice}
use Rattle.std.proofs.lemmas.Iterator.Search.{all_from_yields_List}
use Rattle.rows.specs.Places.{field_of}
use Rattle.block.specs.Block.{ends_by}
use Rattle.table.proofs.FieldRows.{all_every}
use Rattle.block.proofs.all_end.Goals as goal

pub returns : goal.returns
returns c =
    all_from_yields_List (λ r. ends_by c.args.revision c.args.n (field_of r)) _ _ _ c.all.ensures.ran (YieldsList-from_slice c.args.fields.now cc)
    (λ x b q k. search (rules, tests))
    ∙ all_every (ends_by c.args.revision c.args.n) c.args.fields.now
