-- `table::fields::all_early` meets its contract: each of the rows passes.
-- Assumes nothing.
use Rattle.std.proofs.Common.{rules, tests, ◌≡◌, ◌∙◌}
use Rattle.std.proofs.lemmas.Iterator.{YieldsList-from_slice}
use Rattle.std.proofs.lemmas.Iterator.Search.{all_from_yields_List}
use Rattle.rows.specs.Places.{field_of}
use Rattle.table.specs.Rules.{early}
use Rattle.table.proofs.FieldRows.{all_every}
use Rattle.table.proofs.fields.all_early.Goals as goal

pub returns : goal.returns
returns c =
    all_from_yields_List (λ r. early (field_of r)) _ _ _ c.all.ensures.ran (YieldsList-from_slice c.args.rows.now cc) (λ x b q k. search (rules, tests))
    ∙ all_every early c.args.rows.now
