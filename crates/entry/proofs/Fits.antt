-- What is wanted by its kind.
-- Assumes nothing.
use mathlib.Core.Bool.{false}
use mathlib.Core.Path.{◌≡◌, refl, sym, ap, ◌∙◌}
use Rattle.std.proofs.Common.{None, Some}
use Prim.Native.Nat.{ℕ, zero, suc}
use native.Mathlib.Omega.{arith}
use lib.Dec.{eqb}
use borrow.Author.Tests.{ne_eqb}
use Rattle.rows.specs.declared.FieldRow.{FieldRow}
use Rattle.wire.proofs.Tests.{never}
use Rattle.entry.specs.Wanted.{Wanted, is_unset, wanted_of}
use Rattle.entry.specs.Bits.{unless_marked, bits_of}
use Rattle.entry.specs.Code.{wanted_bits}

-- only an entry of kind 0 is unset
pub unset_by_kind : (k x : ℕ) → is_unset (wanted_of k x) ≡ eqb k 0
unfolding wanted_of
unset_by_kind zero x = refl
unset_by_kind (suc zero) x = refl
unset_by_kind (suc (suc zero)) x = refl
unset_by_kind (suc (suc (suc zero))) x = refl
unset_by_kind (suc (suc (suc (suc zero)))) x = refl
unset_by_kind (suc (suc (suc (suc (suc k))))) x = sym (ne_eqb (suc (suc (suc (suc (suc k))))) 0 (omega arith))

-- what has no bits of its type has none, if it is not unset
none_by : (f : FieldRow) (w : Wanted) → is_unset w ≡ false → wanted_bits f.kind w ≡ None → None ≡ bits_of f w
unfolding bits_of
none_by f None u e = never refl u
none_by f (Some said) u e = sym (ap (unless_marked f) e)

pub none-written : (f : FieldRow) (k x : ℕ) → (k ≡ 0 → ⊥) → wanted_bits f.kind (wanted_of k x) ≡ None → None ≡ bits_of f (wanted_of k x)
none-written f k x h e = none_by f (wanted_of k x) (unset_by_kind k x ∙ ne_eqb k 0 h) e
