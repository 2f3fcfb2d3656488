-- `scan::count_no_sync` meets its contract: the law `count_all_same`.
-- Assumes nothing.
use mathlib.Core.Path.{sym}
use Rattle.frame.specs.declared.Reason.TheVariants.{NoSync}
use Rattle.scan.proofs.Marks.{count_all_same}
use Rattle.scan.proofs.count_no_sync.Goals as goal

pub returns : goal.returns
returns c = sym (count_all_same _ _ NoSync)
