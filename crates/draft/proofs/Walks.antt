-- The walks over the lists: what is left gives the whole. Each way through a turn is one law.
-- Assumes nothing.
use mathlib.Core.Bool.{Bool, true, false, ◌&&◌, and-false}
use mathlib.Core.List.{List, ◌∷◌}
use mathlib.Core.Path.{◌≡◌, refl, sym, ap, ◌∙◌}
use Rattle.std.proofs.Common.{Option, None, Some}
use Rattle.std.proofs.lemmas.Option.{IfSome_then}
use Prim.Native.Nat.{ℕ, ◌+◌, ◌≤◌, ◌<◌}
use native.Mathlib.Nat.{zero-add}
use native.Mathlib.Omega.{arith}
use lib.Dec.{leb, eqb}
use lib.ListN.{length, get_or, drop}
use borrow.Author.Tests.{le-leb, lt-leb, eq-eqb, ne_eqb}
use Rattle.rows.specs.declared.FieldRow.{FieldRow}
use Rattle.rows.specs.Places.{field_of}
use Rattle.table.specs.Lists.{every}
use Rattle.table.specs.Shape.{fields_of}
use Rattle.table.proofs.FieldRows.{none_left, one_left}
use Rattle.wire.proofs.Tests.{eq?}
use Rattle.entry.specs.declared.Taken.{Taken}
use Rattle.entry.specs.Wanted.{Wanted, is_unset, begins, wanted_of}
use Rattle.entry.specs.Bits.{wanted_ok, list_ok}
use Rattle.entry.specs.Code.{Taking}
use Rattle.entry.proofs.Places.{subs_end, values_go, subs_begin}
use Rattle.draft.specs.Code.{values_from, subs_from, Stops, ListLeft, Resting, Listing, counted, subs_allowed}

-- one list, at `next`, with the rows from k on
module _ (rows : List (List ℕ)) (revision k : ℕ) (kinds bits : List ℕ) (next : ℕ) (whole : Bool)
    (inv : whole ≡ list_ok revision (fields_of (drop k rows)) (values_from kinds bits next)) where
  pub list_done : length rows ≤ k → every is_unset (values_from kinds bits next) ≡ whole
  unfolding list_ok
  list_done e = sym (inv ∙ ap (λ (fs : List FieldRow). list_ok revision fs (values_from kinds bits next)) (none_left rows k e))

  module _ (g : FieldRow) (d : List ℕ) (u : g ≡ field_of (get_or rows k d)) (h : k < length rows) (t : Taken) (w : Taking kinds bits next t) where
    by : whole ≡ (wanted_ok revision g (wanted_of t.entry.kind t.entry.bits) && list_ok revision (fields_of (drop (k + 1) rows)) (values_from kinds bits t.next))
    unfolding list_ok
    by =
        inv ∙ ap (λ (fs : List FieldRow). list_ok revision fs (values_from kinds bits next)) (one_left rows k d h)
        ∙ rw (u, w.is, w.rest)

    pub list_stop : wanted_ok revision g (wanted_of t.entry.kind t.entry.bits) ≡ false → false ≡ whole
    list_stop e = sym (by ∙ rw e)

    pub list_go : wanted_ok revision g (wanted_of t.entry.kind t.entry.bits) ≡ true → whole ≡ list_ok revision (fields_of (drop (k + 1) rows)) (values_from kinds bits t.next)
    list_go e = by ∙ rw e

module _ (revision : ℕ) (fs : List FieldRow) (kinds bits : List ℕ) (p : ℕ) where
  pub lists_not : false ≡ list_ok revision fs (values_from kinds bits p) → Listing revision fs kinds bits p None
  lists_not e = record { is = e; left = tt }

  pub lists_rest : (next : ℕ) → p ≤ next → subs_from kinds bits next ≡ subs_from kinds bits p → {r : Option ℕ} → Resting kinds next r
      → every is_unset (values_from kinds bits next) ≡ list_ok revision fs (values_from kinds bits p) → Listing revision fs kinds bits p r
  lists_rest next h s {r} rest e =
      record {
        is = rest.is bits ∙ e;
        left = IfSome_then r (rest.left bits) (λ q l. record {
          onward = omega (arith, l.onward);
          within = l.within;
          stops = l.stops;
          subs = l.subs ∙ s;
        });
      }

-- where no value stands and all has not ended, a sub-block begins
stop_begins : (kinds bits : List ℕ) (q : ℕ) → q < length kinds → Stops kinds bits q → get_or kinds q 0 ≡ begins
stop_begins kinds bits q h s =
    eq? (get_or kinds q 0) begins (λ e. e)
    (λ e. let z = ap length (sym s ∙ values_go kinds bits q h e) in let g : ⊥ = omega arith in absurd g)

pub subs_from_lem : (kinds bits : List ℕ) (q : ℕ) → q < length kinds → Stops kinds bits q
    → subs_from kinds bits q ≡ values_from kinds bits (q + 1) ∷ subs_from kinds bits (q + 1)
subs_from_lem kinds bits q h s = subs_begin kinds bits q h (stop_begins kinds bits q h s)

-- the list is the last where it ends at the end
pub ends_last : (kinds bits : List ℕ) (p q : ℕ) → ListLeft kinds bits p q → eqb q (length kinds) ≡ eqb (length (subs_from kinds bits p)) 0
ends_last kinds bits p q l =
    eq? q (length kinds)
    (λ e. let z = ap length (sym l.subs ∙ subs_end kinds bits q (omega arith)) in
    eq-eqb q (length kinds) e ∙ sym (eq-eqb (length (subs_from kinds bits p)) 0 z))
    (λ e. let h : q < length kinds = omega (arith, l.within) in
    let z = ap length (sym l.subs ∙ subs_from_lem kinds bits q h l.stops) in
    ne_eqb q (length kinds) e ∙ sym (ne_eqb (length (subs_from kinds bits p)) 0 (omega arith)))

-- n sub-blocks from p on are allowed, and the next one begins at `next` or all has ended
pub record Begun (test : List Wanted → Bool) (kinds bits : List ℕ) (p n next : ℕ) : Type 0 where
  pub within : next ≤ length kinds
  pub stops : Stops kinds bits next
  pub few : n ≤ 255
  pub count : n + length (subs_from kinds bits next) ≡ length (subs_from kinds bits p)
  pub all : every test (subs_from kinds bits next) ≡ every test (subs_from kinds bits p)

module _ (test : List Wanted → Bool) (kinds bits : List ℕ) (p : ℕ) where
  abbrev pub all_counted : Option ℕ
  all_counted = counted (subs_allowed test (subs_from kinds bits p)) (subs_from kinds bits p)

  pub begun : p ≤ length kinds → Stops kinds bits p → Begun test kinds bits p 0 p
  begun h s = record { within = h; stops = s; few = omega arith; count = zero-add (length (subs_from kinds bits p)); all = refl }

  module _ (n next : ℕ) (b : Begun test kinds bits p n next) where
    pub subs_done : length kinds ≤ next → Some n ≡ all_counted
    unfolding every
    subs_done h =
        let e = subs_end kinds bits next h in
        let k = ap length e in
        let z : length (subs_from kinds bits p) ≡ n = omega (arith, b.count) in
        rw (← b.all, e, z, le-leb n 255 b.few)

    module _ (h : next < length kinds) where
      pub subs_many : 255 ≤ n → None ≡ all_counted
      subs_many l =
          let e = ap length (subs_from_lem kinds bits next h b.stops) in
          let z : 255 < length (subs_from kinds bits p) = omega (arith, b.count) in
          rw (lt-leb (length (subs_from kinds bits p)) 255 z)

      pub subs_wrong : false ≡ test (values_from kinds bits (next + 1)) → None ≡ all_counted
      unfolding every
      subs_wrong e =
          rw (← b.all, subs_from_lem kinds bits next h b.stops, ← e, and-false (leb (length (subs_from kinds bits p)) 255))

      pub subs_more : true ≡ test (values_from kinds bits (next + 1)) → n < 255 → {q : ℕ} → ListLeft kinds bits (next + 1) q → Begun test kinds bits p (n + 1) q
      unfolding every
      subs_more e l {q} w =
          let s = subs_from_lem kinds bits next h b.stops in
          let z = ap length s in
          record {
            within = w.within;
            stops = w.stops;
            few = omega arith;
            count = rw w.subs (omega (arith, b.count));
            all = rw w.subs (sym (rw (s, ← e) at (sym b.all)));
          }
