-- `benchface::alderflute_bench_feed` gives what `feed::feed` gives.
-- Assumes nothing.
use mathlib.Core.Path.{ap, ◌∙◌}
use Rattle.benchface.specs.Four.{four_of}
use Rattle.benchface.proofs.alderflute_bench_feed.Goals as goal

pub returns : goal.returns
returns c = record { out_after = c.four.ensures ∙ ap four_of c.feed.ensures.value; hold_after = c.feed.ensures.hold_after }
