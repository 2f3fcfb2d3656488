-- `writing::never_over`: the law `never_over`.
-- Assumes nothing.
use Rattle.writing.proofs.Most.{never_over}
use Rattle.writing.proofs.never_over.Goals as goal

pub returns : goal.returns
returns c = never_over
