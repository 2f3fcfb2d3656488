-- The marks by their list: numbers that are no marks.
-- Assumes nothing.
use mathlib.Core.Path.{◌≡◌, sym, ap}
use mathlib.Core.Bool.{false}
use Prim.Native.Nat.{ℕ, ◌<◌}
use native.Mathlib.Omega.{arith}
use lib.ListN.{get_or-eq_default}
use Rattle.kinds.specs.Marks.{Mark, marks, unlisted, mark_fits}

pub fits_none : (kind mark : ℕ) → 5 < mark → false ≡ mark_fits kind mark
unfolding mark_fits
fits_none kind mark h = sym (ap (λ (m : Mark). m.fits kind) (get_or-eq_default marks unlisted {n = mark} (omega arith)))
