-- A record call that reads by a table, refused by 1, 5 or 4, or not; and the part that it hands back.
-- Assumes nothing.
use mathlib.Core.Path.{◌≡◌, refl, sym, ◌∙◌}
use mathlib.Core.Bool.{true, false, ◌&&◌}
use mathlib.Core.Logic.{◌⊎◌, inl, inr}
use mathlib.Core.List.{List, []}
use Rattle.std.proofs.Common.{Option, None, Some}
use Prim.Native.Nat.{ℕ, ◌<◌, ◌≤◌}
use native.Mathlib.Omega.{arith}
use lib.ListN.{length}
use lib.Dec.{ltb}
use borrow.Author.Tests.{lt-ltb, le-leb, lt-leb}
use Rattle.table.specs.Decode.{decode}
use Rattle.table.specs.Rules.{table_ok}
use Rattle.walk.specs.declared.Span.{Span}
use Rattle.block.specs.Block.{seen_sub}
use Rattle.record.specs.Calls.{sub_slice, sub_block, sub_place, sub_block_refusal}
use Rattle.record.proofs.Parts.{part_at, refused_part}
use Rattle.reader.specs.State.{sound}
use Rattle.reader.specs.Refusals.{need, long_store, table_refusal}
use Rattle.reader.specs.Outcome.{part_unless}
use Rattle.records.specs.Calls.{table_in_force, ask_refusal, sub_bytes_of, place_unless, sub_place_of, first_of, sub_bytes_refusal}
use Rattle.reader.specs.declared.State.{State}
use Rattle.reader.proofs.Laws.{passes, facts, with_store}

pub record Asked (s : State) (force : List ℕ) : Type 0 where
  pub fits : s.in_force ≤ length force
  pub ok : table_ok (table_in_force s force) ≡ true

pub asked : (s : State) (force : List ℕ) → ask_refusal s force ≡ None → Asked s force
unfolding ask_refusal
asked s force e =
    let p = passes (sound s && long_store force) 1 (need (ltb 0 s.in_force) 5 (table_refusal (table_in_force s force))) e in
    let q = passes (ltb 0 s.in_force) 5 (table_refusal (table_in_force s force)) p.1 in
    let f = with_store s force p.0 in
    record { fits = omega (arith, f.0.in_force, f.1); ok = (passes (table_ok (table_in_force s force)) 4 None q.1).0 }

-- refusals 1, 5 and 4, in this order
module _ (s : State) (force : List ℕ) where
  pub bad_buffer : (sound s ≡ false) ⊎ ((sound s ≡ true) × (length force < 8192)) → Some 1 ≡ ask_refusal s force
  unfolding ask_refusal
  bad_buffer (inl e) = simp e
  bad_buffer (inr h) = simp (h.0, lt-leb 8192 (length force) h.1)

  module _ (ok : sound s ≡ true) (long : 8192 ≤ length force) where
    pub in_store : s.in_force ≤ length force
    in_store = omega (arith, (facts s ok).in_force)

    asks : ask_refusal s force ≡ need (ltb 0 s.in_force) 5 (table_refusal (table_in_force s force))
    unfolding ask_refusal
    asks = rw (ok, le-leb 8192 (length force) long)

    pub no_table : s.in_force ≡ 0 → Some 5 ≡ ask_refusal s force
    no_table e = sym (asks ∙ rw e)

    module _ (some_table : s.in_force ≡ 0 → ⊥) where
      asks_table : ask_refusal s force ≡ table_refusal (table_in_force s force)
      asks_table = asks ∙ rw (lt-ltb 0 s.in_force (omega arith))

      pub bad_table : table_ok (table_in_force s force) ≡ false → Some 4 ≡ ask_refusal s force
      bad_table e = sym (asks_table ∙ rw e)

      pub good_table : table_ok (table_in_force s force) ≡ true → None ≡ ask_refusal s force
      good_table e = sym (asks_table ∙ rw e)

-- the part that stands at a call's place is the one that it hands back
place_by_lem : (o : Option ℕ) (b : List ℕ) (p : Span) {q : List ℕ} → sub_slice b p ≡ q → sub_slice b (place_unless o p) ≡ part_unless o q
unfolding sub_slice
place_by_lem None b p e = e
place_by_lem (Some n) b p e = refl

pub place_bytes : (s : State) (force block : List ℕ) (k : ℕ) → sub_slice block (sub_place_of s force block k) ≡ sub_bytes_of s force block k
unfolding sub_place_of sub_bytes_of
place_bytes s force block k =
    let tab = decode (table_in_force s force) in
    place_by_lem (ask_refusal s force) block (sub_place tab block k) (part_at tab block k)

-- and it is empty where the call is refused
empty_by : (o p : Option ℕ) (n : ℕ) (b : List ℕ) → first_of o p ≡ Some n → (p ≡ Some n → b ≡ []) → part_unless o b ≡ []
empty_by None p n b e f = f e
empty_by (Some m) p n b e f = refl

pub sub_bytes_empty : (s : State) (force block : List ℕ) (k n : ℕ) → sub_bytes_refusal s force block k ≡ Some n → sub_bytes_of s force block k ≡ []
unfolding sub_bytes_of sub_bytes_refusal sub_block sub_block_refusal
sub_bytes_empty s force block k n e =
    empty_by (ask_refusal s force) _ n _ e (refused_part block k (seen_sub (decode (table_in_force s force)) block k) n)
