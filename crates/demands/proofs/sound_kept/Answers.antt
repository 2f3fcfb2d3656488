-- `demands::sound_kept`: the law `sound_kept`.
-- Assumes nothing.
use Rattle.demands.proofs.Soundness.{sound_kept}
use Rattle.demands.proofs.sound_kept.Goals as goal

pub returns : goal.returns
returns c = sound_kept
