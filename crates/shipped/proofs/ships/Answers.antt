-- `shipped::ships`: by `encode::encodes`; antt computes that the rows keep the rules on meaning, and that they fit.
-- Assumes nothing.
use mathlib.Core.Path.{refl}
use Rattle.kinds.specs.Types.{size_of}
use Rattle.table.specs.Lists.{every, chain, neighbours, pick}
use Rattle.kinds.specs.Marks.{mark_fits}
use Rattle.table.specs.Rows.{first_rows, second_rows}
use Rattle.table.specs.Rules.{rising_ok, is_pair, is_triple, nest_ok, shape_ok, fields_ok, block_ok, meaning_ok}
use Rattle.encode.specs.Fits.{field_rows, file_size, block_fits, fits}
use Rattle.encode.proofs.Encoded.{encodes}
use Rattle.shipped.specs.Rows.{shipped}
use Rattle.shipped.proofs.ships.Goals as goal

pub returns : goal.returns
unfolding size_of every chain neighbours pick mark_fits first_rows second_rows rising_ok is_pair is_triple nest_ok shape_ok fields_ok block_ok meaning_ok field_rows file_size block_fits fits
returns c = encodes shipped refl refl
