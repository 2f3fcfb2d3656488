-- `play::ask_on` meets its contract: no answer of the reader carries a NaN as a float.
-- Assumes nothing.
use Rattle.record.proofs.Fields.{answers_no_nan}
use Rattle.play.proofs.ask_on.Goals as goal

pub field-requires : goal.field-requires
field-requires c = answers_no_nan c.body.ensures

pub field-requires-in-Sub : goal.field-requires-in-Sub
field-requires-in-Sub c = answers_no_nan c.sub.ensures

pub field-requires-in-Sub2 : goal.field-requires-in-Sub2
field-requires-in-Sub2 c = answers_no_nan c.sub2.ensures

pub field-requires-in-Range : goal.field-requires-in-Range
field-requires-in-Range c = answers_no_nan c.range.ensures

pub field-requires-in-Range2 : goal.field-requires-in-Range2
field-requires-in-Range2 c = answers_no_nan c.range2.ensures

pub field-requires-in-Tow : goal.field-requires-in-Tow
field-requires-in-Tow c = answers_no_nan c.tow.ensures

pub field-requires-in-Wnc : goal.field-requires-in-Wnc
field-requires-in-Wnc c = answers_no_nan c.wnc.ensures
