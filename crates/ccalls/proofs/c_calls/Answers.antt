-- `ccalls::c_calls`: the law `through_c`.
-- Assumes nothing.
use Rattle.ccalls.proofs.Sequences.{through_c}
use Rattle.ccalls.proofs.c_calls.Goals as goal

pub returns : goal.returns
returns c = through_c
