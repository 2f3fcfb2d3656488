-- Kinds and bits from a place on: what stands there, and what is left after it.
-- Assumes nothing.
use mathlib.Core.Bool.{cond}
use mathlib.Core.List.{List, [], ◌∷◌}
use mathlib.Core.Path.{◌≡◌, refl, sym, ◌∙◌}
use Prim.Native.Nat.{ℕ, ◌+◌, ◌≤◌, ◌<◌}
use native.Mathlib.Nat.{add-zero}
use native.Mathlib.Numerals.{add-one}
use native.Mathlib.Omega.{arith}
use lib.Dec.{eqb}
use lib.ListN.{length, get_or, drop, drop_of_length-le}
use lib.Seq.{drop-cons, get_or-drop, drop-drop}
use borrow.Author.Tests.{eq-eqb, ne_eqb}
use Rattle.entry.specs.Wanted.{begins, wanted_of, values_in, subs_in}
use Rattle.entry.specs.Code.{Taking}

module _ (kinds bits : List ℕ) (p : ℕ) where
  abbrev kind_here : ℕ
  kind_here = get_or kinds p 0

  -- at the end
  pub values_end : length kinds ≤ p → values_in (drop p kinds) (drop p bits) ≡ []
  unfolding values_in
  values_end h = rw (drop_of_length-le kinds h)

  pub subs_end : length kinds ≤ p → subs_in (drop p kinds) (drop p bits) ≡ []
  unfolding subs_in
  subs_end h = rw (drop_of_length-le kinds h)

  -- and before it
  module _ (h : p < length kinds) where
    pub values_at : values_in (drop p kinds) (drop p bits)
        ≡ cond (eqb kind_here begins) [] (wanted_of kind_here (get_or bits p 0) ∷ values_in (drop (p + 1) kinds) (drop (p + 1) bits))
    unfolding values_in
    values_at = rw (drop-cons kinds p 0 h, get_or-drop p bits 0 0, drop-drop 1 p bits, add-zero, add-one)

    pub subs_at : subs_in (drop p kinds) (drop p bits)
        ≡ cond (eqb kind_here begins)
        (values_in (drop (p + 1) kinds) (drop (p + 1) bits) ∷ subs_in (drop (p + 1) kinds) (drop (p + 1) bits))
        (subs_in (drop (p + 1) kinds) (drop (p + 1) bits))
    unfolding subs_in
    subs_at = rw (drop-cons kinds p 0 h, drop-drop 1 p bits, add-one)

    -- a sub-block begins here
    module _ (e : kind_here ≡ begins) where
      pub values_stop : values_in (drop p kinds) (drop p bits) ≡ []
      values_stop = values_at ∙ rw (eq-eqb kind_here begins e)

      pub subs_begin : subs_in (drop p kinds) (drop p bits)
          ≡ values_in (drop (p + 1) kinds) (drop (p + 1) bits) ∷ subs_in (drop (p + 1) kinds) (drop (p + 1) bits)
      subs_begin = subs_at ∙ rw (eq-eqb kind_here begins e)

    -- a value stands here
    module _ (e : kind_here ≡ begins → ⊥) where
      pub values_go : values_in (drop p kinds) (drop p bits) ≡ wanted_of kind_here (get_or bits p 0) ∷ values_in (drop (p + 1) kinds) (drop (p + 1) bits)
      values_go = values_at ∙ rw (ne_eqb kind_here begins e)

      pub subs_go : subs_in (drop p kinds) (drop p bits) ≡ subs_in (drop (p + 1) kinds) (drop (p + 1) bits)
      subs_go = subs_at ∙ rw (ne_eqb kind_here begins e)

  pub takes_one : (k x : ℕ) → p < length kinds → k ≡ kind_here → (k ≡ begins → ⊥) → x ≡ get_or bits p 0
      → Taking kinds bits p (record { entry = record { kind = k; bits = x }; next = p + 1 })
  takes_one k x h e n g =
      let m : kind_here ≡ begins → ⊥ = λ z. n (e ∙ z) in
      record {
        is = rw (values_go h m, g, e);
        rest = rw (values_go h m);
        subs = sym (subs_go h m);
        within = omega arith;
        onward = omega arith;
      }

  -- nothing is taken where no value stands
  pub takes_none : values_in (drop p kinds) (drop p bits) ≡ [] → p ≤ length kinds
      → Taking kinds bits p (record { entry = record { kind = 0; bits = 0 }; next = p })
  unfolding wanted_of
  takes_none e h = record { is = rw e; rest = rw e; subs = refl; within = h; onward = omega arith }
