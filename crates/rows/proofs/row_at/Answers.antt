-- `rows::row_at` meets its contract: eight bytes, by the definition.
-- Assumes nothing.
use native.Mathlib.Omega.{arith}
use Rattle.rows.specs.Places.{row_from, row_at}
use Rattle.rows.proofs.row_at.Goals as goal

pub returns : goal.returns
unfolding row_from row_at
returns c = (
  rw (c.u2.ensures, c.from.ensures, c.from-2.ensures, c.u2-2.ensures, c.from-3.ensures, c.from-4.ensures, c.requires.0),
  omega arith,
  omega arith,
  omega arith,
  omega arith,
)
