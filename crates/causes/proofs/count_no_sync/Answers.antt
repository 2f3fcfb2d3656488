-- `causes::count_no_sync` meets its contract: the law `count_all_no_sync`.
-- Assumes nothing.
use mathlib.Core.Path.{sym}
use Rattle.causes.proofs.Counting.{count_all_no_sync}
use Rattle.causes.proofs.count_no_sync.Goals as goal

pub returns : goal.returns
returns c = sym (count_all_no_sync _ _)
