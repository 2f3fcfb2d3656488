-- A call that is refused, and one that is not: what its outcome is.
-- Assumes nothing.
use mathlib.Core.Path.{◌≡◌, refl, sym, ap, ◌∙◌}
use mathlib.Core.List.{List}
use Rattle.std.proofs.Common.{Option, None, Some}
use Prim.Native.Nat.{ℕ}
use Rattle.reader.specs.Said.{Said, refused, version}
use Rattle.reader.specs.Outcome.{Outcome, outcome, unless, RefusalKeeps}
use Rattle.reader.specs.declared.State.{State}

pub refusal_keeps : RefusalKeeps
refusal_keeps = record { all = λ n s lent done. refl; empty = λ n part. refl }

module _ (s : State) (l : List ℕ) (d : Outcome) where
  pub refused_by_lem : (o : Option ℕ) (n : ℕ) {v : ℕ} → d.said ≡ version v → (unless o s l d).said ≡ refused n → unless o s l d ≡ outcome (refused n) s l
  refused_by_lem (Some m) n e f = let q : m ≡ n = cc in ap (λ (k : ℕ). outcome (refused k) s l) q
  refused_by_lem None n e f = absurd cc

  pub accepted_by : (o : Option ℕ) {v : ℕ} → (unless o s l d).said ≡ version v → o ≡ None
  accepted_by (Some m) f = absurd cc
  accepted_by None f = refl

  pub is_done : (o : Option ℕ) → o ≡ None → d ≡ unless o s l d
  is_done o e = sym (ap (λ (x : Option ℕ). unless x s l d) e)

-- ---- outcomes that are equal part by part

pub same_outcome : {a b : Said} {s t : State} {l m : List ℕ} → a ≡ b → s ≡ t → l ≡ m → outcome a s l ≡ outcome b t m
same_outcome {a} {b} {s} {t} {l} {m} e f g =
    ap (λ (x : Said). outcome x s l) e ∙ ap (λ (x : State). outcome b x l) f ∙ ap (λ (x : List ℕ). outcome b t x) g
