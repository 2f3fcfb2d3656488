-- `benchface::alderflute_bench_write` meets its contract: the writer's answer as a number, and its buffer.
-- Assumes nothing.
use mathlib.Core.Path.{◌∙◌}
use Rattle.benchface.proofs.Told.{told_length, told_buffer}
use Rattle.benchface.proofs.alderflute_bench_write.Goals as goal

pub returns : goal.returns
returns c = record { value = c.unwrap_or.ensures ∙ told_length _ c.write.ensures; out_after = told_buffer _ c.write.ensures }
