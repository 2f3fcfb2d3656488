-- The ten types by the marks, one table: the size of each type, the marks that it may bear, and the bits that are then Do-Not-Use
-- (rules V1, V3, V4, V10). Computed from the definitions it is the same.
-- Assumes nothing.
use Rattle.std.specs.Prelude.{Bool, cond, List, [], ◌∷◌, map, ◌≡◌, ℕ, Option, None, Some}
use Rattle.kinds.specs.Types.{u1, u2, u4, u8, i1, i2, i4, i8, f4, f8, size_of}
use Rattle.kinds.specs.Marks.{unmarked, ones, zeroes, minus2e10, least, seed, mark_fits, is_do_not_use}

-- a type, its size, bits that are tried, and for each mark what comes of it: none where the type may not bear it, else those of the
-- bits tried that are Do-Not-Use
pub record GridRow : Type 0 where
  pub kind : ℕ
  pub size : ℕ
  pub tried : List ℕ
  pub cells : List (Option (List ℕ))

abbrev grid_row : ℕ → ℕ → List ℕ → List (Option (List ℕ)) → GridRow
grid_row kind size tried cells = record { kind = kind; size = size; tried = tried; cells = cells }

-- the type may not bear the mark; it may, and of the bits tried none are Do-Not-Use; it may, and of those tried only these are
abbrev no : Option (List ℕ)
no = None

abbrev never : Option (List ℕ)
never = Some []

abbrev only : ℕ → Option (List ℕ)
only bits = Some (bits ∷ [])

-- tried in 1, 2, 4 and 8 bytes: the bits that a mark names there, and on both sides of each its neighbours; in 2 also both sides
-- of 2 ^ 12 and of 2 ^ 13
abbrev in1 : List ℕ
in1 = 0x00 ∷ 0x01 ∷ 0x7F ∷ 0x80 ∷ 0x81 ∷ 0xFE ∷ 0xFF ∷ []

abbrev in2 : List ℕ
in2 = 0x0000 ∷ 0x0001 ∷ 0x0FFF ∷ 0x1000 ∷ 0x1FFF ∷ 0x2000 ∷ 0x2001 ∷ 0x7FFF ∷ 0x8000 ∷ 0x8001 ∷ 0xFFFE ∷ 0xFFFF ∷ []

abbrev in4 : List ℕ
in4 =
    0x00000000 ∷ 0x00000001 ∷ 0x7FFFFFFF ∷ 0x80000000 ∷ 0x80000001 ∷ 0xD09502F8 ∷ 0xD09502F9 ∷ 0xD09502FA ∷ 0xFFFFFFFE ∷ 0xFFFFFFFF ∷ []

abbrev in8 : List ℕ
in8 =
    0x0000000000000000
    ∷ 0x0000000000000001
    ∷ 0x7FFFFFFFFFFFFFFF
    ∷ 0x8000000000000000
    ∷ 0x8000000000000001
    ∷ 0xC212A05F1FFFFFFF
    ∷ 0xC212A05F20000000
    ∷ 0xC212A05F20000001
    ∷ 0xFFFFFFFFFFFFFFFE
    ∷ 0xFFFFFFFFFFFFFFFF
    ∷ []

-- V10: those of `in2` whose three highest bits are clear
abbrev seedless : Option (List ℕ)
seedless = Some (0x0000 ∷ 0x0001 ∷ 0x0FFF ∷ 0x1000 ∷ 0x1FFF ∷ [])

-- V3: the marks, and a number that is none
abbrev pub marks_tried : List ℕ
marks_tried = unmarked ∷ ones ∷ zeroes ∷ minus2e10 ∷ least ∷ seed ∷ 6 ∷ []

abbrev pub grid : List GridRow
grid =
    grid_row u1 1 in1 (never ∷ only 0xFF ∷ only 0 ∷ no ∷ no ∷ no ∷ no ∷ [])
    ∷ grid_row u2 2 in2 (never ∷ only 0xFFFF ∷ only 0 ∷ no ∷ no ∷ seedless ∷ no ∷ [])
    ∷ grid_row u4 4 in4 (never ∷ only 0xFFFFFFFF ∷ only 0 ∷ no ∷ no ∷ no ∷ no ∷ [])
    ∷ grid_row u8 8 in8 (never ∷ only 0xFFFFFFFFFFFFFFFF ∷ only 0 ∷ no ∷ no ∷ no ∷ no ∷ [])
    ∷ grid_row i1 1 in1 (never ∷ no ∷ no ∷ no ∷ only 0x80 ∷ no ∷ no ∷ [])
    ∷ grid_row i2 2 in2 (never ∷ no ∷ no ∷ no ∷ only 0x8000 ∷ no ∷ no ∷ [])
    ∷ grid_row i4 4 in4 (never ∷ no ∷ no ∷ no ∷ only 0x80000000 ∷ no ∷ no ∷ [])
    ∷ grid_row i8 8 in8 (never ∷ no ∷ no ∷ no ∷ only 0x8000000000000000 ∷ no ∷ no ∷ [])
    ∷ grid_row f4 4 in4 (never ∷ no ∷ no ∷ only 0xD09502F9 ∷ no ∷ no ∷ no ∷ [])
    ∷ grid_row f8 8 in8 (never ∷ no ∷ no ∷ only 0xC212A05F20000000 ∷ no ∷ no ∷ no ∷ [])
    ∷ []

-- all that p holds of
abbrev those_that : (ℕ → Bool) → List ℕ → List ℕ
those_that p [] = []
those_that p (x ∷ xs) = cond (p x) (x ∷ those_that p xs) (those_that p xs)

abbrev cell_of : ℕ → List ℕ → ℕ → Option (List ℕ)
cell_of kind tried mark = cond (mark_fits kind mark) (Some (those_that (is_do_not_use mark kind) tried)) None

abbrev computed : GridRow → GridRow
computed r = grid_row r.kind (size_of r.kind) r.tried (map (cell_of r.kind r.tried) marks_tried)

abbrev pub GridHolds : Type 0
GridHolds = map computed grid ≡ grid
