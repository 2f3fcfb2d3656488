-- `epoch::number_at` meets its contract: no such row, one of another type, or the number.
-- Assumes nothing.
use Rattle.std.proofs.Common.{ap, ◌∙◌, arith}
use Rattle.wire.specs.Range.{Bytes}
use Rattle.rows.specs.Places.{field_of}
use Rattle.epoch.proofs.Numbers.{number_out, number_other, number_ends, number_is, number_below}
use Rattle.epoch.proofs.number_at.Goals as goal

pub returns-in_err-get-clause-result_value : goal.returns-in_err-get-clause-result_value
returns-in_err-get-clause-result_value c = rw c.from_residual.ensures (number_out _ _ _ _ _ c.in_err-get.ensures.lookup.3)

pub returns-then-f-kind-clause-result_value : goal.returns-then-f-kind-clause-result_value
returns-then-f-kind-clause-result_value c =
    let h = c.in_ok-get.ensures.lookup in
    number_other c.args.fields.now _ c.args.j _ _ _ (c.field-f.ensures.0 ∙ ap field_of h.1) h.3.0 c.if-f-kind.true

pub field_said-requires : goal.field_said-requires
field_said-requires c =
    let h = c.in_ok-get.ensures.lookup in
    number_ends c.args.fields.now _ c.args.j c.args.kind _ _ (c.field-f.ensures.0 ∙ ap field_of h.1) h.3.0 c.requires.0

pub returns-clause-result_value : goal.returns-clause-result_value
returns-clause-result_value c =
    let h = c.in_ok-get.ensures.lookup in
    number_is c.args.fields.now _ c.args.j _ _ _ (c.field-f.ensures.0 ∙ ap field_of h.1) h.3.0 c.if-f-kind.false c.field_said.ensures c.number_of.ensures

pub returns-clause-number_below : goal.returns-clause-number_below
returns-clause-number_below c =
    let h = c.in_ok-get.ensures.lookup in
    let bytes : Bytes c.args.s.now = λ i. omega (arith, c.type_inv.s i) in
    number_below c.args.fields.now _ c.args.j _ _ _ (c.field-f.ensures.0 ∙ ap field_of h.1) h.3.0 c.if-f-kind.false c.field_said.ensures c.number_of.ensures c.requires.1 bytes
