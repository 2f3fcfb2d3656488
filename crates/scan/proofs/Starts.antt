-- Places that are no start, put together.
-- Assumes nothing.
use mathlib.Core.Path.{◌≡◌, subst⁻¹}
use mathlib.Core.List.{List}
use Prim.Native.Nat.{ℕ, ◌+◌, ◌≤◌, ◌<◌}
use native.Mathlib.Omega.{arith}
use lib.ListN.{length, get_or}
use Rattle.scan.specs.Scan.{NoDollar, NoStart}
use Rattle.wire.proofs.Tests.{lt?, eq?}

module _ (s : List ℕ) where
  -- what is asked of a place that is passed
  abbrev pub StartsPassed : ℕ → Type 0
  StartsPassed k = get_or s k 0 ≡ 0x24 → (k + 1 < length s) × (get_or s (k + 1) 0 ≡ 0x40 → ⊥)

  pub no_dollar : {i r : ℕ} → NoDollar s i r → NoStart s i r
  no_dollar h = record { from = h.from; within = h.within; none = λ k lo hi e. absurd (h.none k lo hi e) }

  pub nothing : (k : ℕ) → k ≤ length s → NoDollar s k k
  nothing k l = record { from = omega arith; within = l; none = λ j lo hi e. let f : ⊥ = omega arith in f }

  -- one place more, and then places with no first sync byte
  pub go_on : {i k r : ℕ} → NoStart s i k → StartsPassed k → NoDollar s (k + 1) r → NoStart s i r
  go_on {i} {k} {r} h p n =
      record {
        from = omega (arith, h.from, n.from);
        within = n.within;
        none =
            λ j lo hi.
            lt? j k (λ l. h.none j lo l)
            (λ l. eq? j k (λ e. subst⁻¹ StartsPassed e p) (λ ne. λ e. absurd (n.none j (omega (arith, ne)) hi e)));
      }
