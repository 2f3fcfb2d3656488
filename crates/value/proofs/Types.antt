-- Types by their tables, and a field's value by its mark.
-- Assumes nothing.
use mathlib.Core.Path.{◌≡◌, refl}
use mathlib.Core.List.{List}
use mathlib.Core.Bool.{true, false}
use Prim.Native.Nat.{ℕ, zero, suc}
use Rattle.wire.specs.Little.{little_at}
use Rattle.kinds.specs.Types.{size_of}
use Rattle.kinds.specs.Marks.{is_do_not_use}
use Rattle.rows.specs.declared.FieldRow.{FieldRow}
use Rattle.value.specs.declared.Value.{Value}
use Rattle.value.specs.declared.Value.TheVariants.{DoNotUse}
use Rattle.value.specs.Said.{unsigned, Means}
use Rattle.value.specs.Bits.{read_as, value_of, field_value}

-- a type that is none of 5 to 10 is read without a sign
pub plain : (kind x : ℕ) → (kind ≡ 5 → ⊥) → (kind ≡ 6 → ⊥) → (kind ≡ 7 → ⊥) → (kind ≡ 8 → ⊥) → (kind ≡ 9 → ⊥) → (kind ≡ 10 → ⊥)
    → unsigned x ≡ read_as kind x
unfolding read_as
plain zero x a b c d e f = refl
plain (suc zero) x a b c d e f = refl
plain (suc (suc zero)) x a b c d e f = refl
plain (suc (suc (suc zero))) x a b c d e f = refl
plain (suc (suc (suc (suc zero)))) x a b c d e f = refl
plain (suc (suc (suc (suc (suc zero))))) x a b c d e f = absurd (a refl)
plain (suc (suc (suc (suc (suc (suc zero)))))) x a b c d e f = absurd (b refl)
plain (suc (suc (suc (suc (suc (suc (suc zero))))))) x a b c d e f = absurd (c refl)
plain (suc (suc (suc (suc (suc (suc (suc (suc zero)))))))) x a b c d e f = absurd (d refl)
plain (suc (suc (suc (suc (suc (suc (suc (suc (suc zero))))))))) x a b c d e f = absurd (e refl)
plain (suc (suc (suc (suc (suc (suc (suc (suc (suc (suc zero)))))))))) x a b c d e f = absurd (f refl)
plain (suc (suc (suc (suc (suc (suc (suc (suc (suc (suc (suc k))))))))))) x a b c d e f = refl

-- a size that is none of 1, 2, 4 and 8 is no type's
pub no_size : (kind : ℕ) → (size_of kind ≡ 1 → ⊥) → (size_of kind ≡ 2 → ⊥) → (size_of kind ≡ 4 → ⊥) → (size_of kind ≡ 8 → ⊥) → size_of kind ≡ 0
unfolding size_of
no_size zero a b c d = refl
no_size (suc zero) a b c d = absurd (a refl)
no_size (suc (suc zero)) a b c d = absurd (b refl)
no_size (suc (suc (suc zero))) a b c d = absurd (c refl)
no_size (suc (suc (suc (suc zero)))) a b c d = absurd (d refl)
no_size (suc (suc (suc (suc (suc zero))))) a b c d = absurd (a refl)
no_size (suc (suc (suc (suc (suc (suc zero)))))) a b c d = absurd (b refl)
no_size (suc (suc (suc (suc (suc (suc (suc zero))))))) a b c d = absurd (c refl)
no_size (suc (suc (suc (suc (suc (suc (suc (suc zero)))))))) a b c d = absurd (d refl)
no_size (suc (suc (suc (suc (suc (suc (suc (suc (suc zero))))))))) a b c d = absurd (c refl)
no_size (suc (suc (suc (suc (suc (suc (suc (suc (suc (suc zero)))))))))) a b c d = absurd (d refl)
no_size (suc (suc (suc (suc (suc (suc (suc (suc (suc (suc (suc k))))))))))) a b c d = refl

-- a field's value: Do-Not-Use where its bits are the mark's, else what they mean by the type
module _ (s : List ℕ) (f : FieldRow) {x : ℕ} (e : x ≡ little_at (size_of f.kind) s f.offset) where
  pub marked : is_do_not_use f.mark f.kind x ≡ true → Means DoNotUse (field_value s f)
  unfolding field_value value_of
  marked h = rw (← e, h) (record { says = refl; case = refl })

  pub not_marked : is_do_not_use f.mark f.kind x ≡ false → {v : Value} → Means v (read_as f.kind x) → Means v (field_value s f)
  unfolding field_value value_of
  not_marked h u = rw (← e, h) u
