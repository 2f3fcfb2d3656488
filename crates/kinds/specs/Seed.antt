-- Mark 5 by numbers, and against the marks that were there before it (rule V10).
-- Assumes nothing.
use Rattle.std.specs.Prelude.{true, false, List, [], ◌∷◌, ◌≡◌, ℕ, ◌+◌, ◌*◌, ◌<◌, eqb, ltb, get_or}
use Rattle.kinds.specs.Types.{u2, is_unsigned, is_signed, is_float, half}
use Rattle.kinds.specs.Marks.{Mark, seed, all_ones, nought, minus, equals, written, no_test, cannot, unlisted, mark_of, is_do_not_use}

-- the marks 0 to 4, which are all that a reader from before this mark has; they stand here a second time, so that a change of the
-- list does not change what was
abbrev pub earlier : List Mark
earlier =
    record { fits = λ kind. true; test = no_test; unset = cannot }
    ∷ record { fits = is_unsigned; test = equals all_ones; unset = written all_ones }
    ∷ record { fits = is_unsigned; test = equals nought; unset = written nought }
    ∷ record { fits = is_float; test = equals minus; unset = written minus }
    ∷ record { fits = is_signed; test = equals half; unset = written half }
    ∷ []

abbrev pub earlier_mark : ℕ → Mark
earlier_mark mark = get_or earlier mark unlisted

pub record SeedHolds : Type 0 where
  -- of the numbers of a u2, those below 8,192 are Do-Not-Use, and no others
  pub below : (x : ℕ) → is_do_not_use seed u2 x ≡ ltb x 8192
  -- it is the seed type that decides, and not the 13 bits below it
  pub by_type : (type low : ℕ) → low < 8192 → is_do_not_use seed u2 (type * 8192 + low) ≡ eqb type 0
  -- by the earlier marks no type may bear it, so that such a reader refuses the table (T15); and they mean what they meant
  pub refused : (kind : ℕ) → (earlier_mark seed).fits kind ≡ false
  pub kept : (mark : ℕ) → mark < seed → earlier_mark mark ≡ mark_of mark
