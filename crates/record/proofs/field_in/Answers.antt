-- `record::field_in` meets its contract: the row of that number, or refusal 9.
-- Assumes nothing.
use Rattle.std.proofs.Common.{ap, ◌∙◌}
use Rattle.rows.specs.Places.{field_of}
use Rattle.record.proofs.Calls.{none_there, one_there, ends_there}
use Rattle.record.proofs.field_in.Goals as goal

pub field_said-requires : goal.field_said-requires
field_said-requires c =
    let h = c.in-Some.ensures.lookup in
    ends_there c.args.fields.now c.args.i _ c.args.s.now _ _ (c.field.ensures.0 ∙ ap field_of h.1) h.3.0 c.requires

pub returns-in-Some : goal.returns-in-Some
returns-in-Some c =
    let h = c.in-Some.ensures.lookup in
    one_there c.args.fields.now c.args.i _ c.args.s.now _ _ (c.field.ensures.0 ∙ ap field_of h.1) h.3.0 c.field_said.ensures

pub returns-in-None : goal.returns-in-None
returns-in-None c = none_there c.args.fields.now c.args.i _ _ c.in-None.ensures.lookup.3
