-- `benchface::alderflute_bench_finish` gives what `feed::finish` gives.
-- Assumes nothing.
use mathlib.Core.Path.{ap, ◌∙◌}
use Rattle.benchface.specs.Four.{four_of}
use Rattle.benchface.proofs.alderflute_bench_finish.Goals as goal

pub returns : goal.returns
returns c = record { out_after = c.four.ensures ∙ ap four_of c.finish.ensures.value; hold_after = c.finish.ensures.hold_after }
