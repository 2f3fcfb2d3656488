-- `writing::giving_holds`: antt computes both sides.
-- Assumes nothing.
use mathlib.Core.Path.{refl}
use Rattle.value.specs.Bits.{with_sign}
use Rattle.entry.specs.Wanted.{wanted_of, values_in, subs_in}
use Rattle.writing.proofs.giving_holds.Goals as goal

pub returns : goal.returns
unfolding with_sign wanted_of values_in subs_in
returns c = refl
