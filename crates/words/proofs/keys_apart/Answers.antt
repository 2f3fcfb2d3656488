-- `words::keys_apart`: the law `told_apart`.
-- Assumes nothing.
use Rattle.words.proofs.Apart.{told_apart}
use Rattle.words.proofs.keys_apart.Goals as goal

pub returns : goal.returns
returns c = told_apart
