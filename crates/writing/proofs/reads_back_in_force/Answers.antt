-- `writing::reads_back_in_force`: the law `all_read_back_in_force`.
-- Assumes nothing.
use Rattle.writing.proofs.Force.{all_read_back_in_force}
use Rattle.writing.proofs.reads_back_in_force.Goals as goal

pub returns : goal.returns
returns c = all_read_back_in_force
