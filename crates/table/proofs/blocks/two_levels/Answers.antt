-- `table::blocks::two_levels` meets its contract: each level by itself, and N2, N1, SB1Length and SB2Length.
-- Assumes nothing.
use Rattle.std.proofs.Common.{ap, ◌∙◌, List, ℕ, []}
use Rattle.table.specs.Code.{field_pass}
use Rattle.table.specs.Shape.{fields_of}
use Rattle.table.proofs.Loops.{two_few, two_says}
use Rattle.table.proofs.blocks.two_levels.Goals as goal

pub returns-then-s-c : goal.returns-then-s-c
returns-then-s-c c = two_few c.args.s c.if-s-c.true

pub returns : goal.returns
returns c =
    let s = c.args.s in
    let pass = λ (rows : List (List ℕ)). field_pass 0 0 s.highest (fields_of rows) in
    two_says s c.requires c.if-s-c.false [] (c.fields_ok-first.ensures ∙ ap pass c.split_at.ensures.front) (c.fields_ok-second.ensures ∙ ap pass c.split_at.ensures.back)
    c.nested_ok-nested.ensures c.triple_ok-triple.ensures c.all_early-early.ensures
