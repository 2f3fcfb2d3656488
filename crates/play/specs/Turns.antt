-- What a line came to carries no NaN as a float.
-- Assumes nothing.
use Rattle.std.specs.Prelude.{Bool, true}
use Rattle.desk.specs.Plain.{plainly}
use Rattle.play.specs.declared.Turn.{Turn}
use Rattle.play.specs.declared.Turn.TheVariants.{Quiet, Bad, Ran, Asked}

abbrev pub plain : Turn → Bool
plain Quiet = true
plain Bad = true
plain (Ran r) = true
plain (Asked a) = plainly a
