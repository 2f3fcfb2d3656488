-- Where a part of a buffer stands: a pointer is an allocation and an offset in it.
-- Assumes nothing.
use Rattle.std.specs.Prelude.{ℕ, ◌+◌}

-- n bytes on from there
abbrev pub offset_by : ℕ × ℕ → ℕ → ℕ × ℕ
offset_by p n = (p.0, p.1 + n)
