-- What is told of a draft: each way through the code is one law of `written_of`.
-- Assumes nothing.
use mathlib.Core.Bool.{Bool, true, false, ◌&&◌}
use mathlib.Core.List.{List, [], ◌∷◌}
use Rattle.std.proofs.Common.{Option, None, Some}
use Rattle.std.proofs.lemmas.Option.{cond_some}
use mathlib.Core.Path.{◌≡◌, refl, sym, ap, ◌∙◌}
use Prim.Native.Nat.{ℕ, ◌+◌, ◌*◌, ◌/◌, ◌≤◌, ◌<◌}
use native.Mathlib.Omega.{arith}
use lib.Dec.{leb}
use lib.ListN.{length}
use borrow.Author.Tests.{leb-true, eq-eqb, ne_eqb}
use Rattle.table.specs.Lists.{every, first_that}
use Rattle.table.specs.Rows.{BlockRow}
use Rattle.table.specs.declared.Shape.{Shape}
use Rattle.table.specs.Shape.{shape_says}
use Rattle.table.specs.Decode.{decode}
use Rattle.table.specs.Rules.{number_ok, block_ok, table_ok}
use Rattle.table.specs.Lookup.{has_number, find_row, Finding}
use Rattle.table.proofs.Passed.{passed}
use Rattle.copy.specs.Over.{over}
use Rattle.wire.proofs.Tests.{both}
use Rattle.entry.specs.Wanted.{Wanted}
use Rattle.draft.specs.declared.Measured.{Measured}
use Rattle.draft.specs.Draft.{Draft, draft_ok, sb_length_by, sb_length, block_end_by, block_length, room_for}
use Rattle.draft.proofs.Admitted.{admitted}
use Rattle.draft.specs.Code.{counted, Sizing}
use Rattle.writer.specs.Block.{block_bytes}
use Rattle.writer.specs.Write.{wrote, write_refused, WriteOutcome, write_outcome, written_by, writable_row, written_of}
use Rattle.writer.specs.Code.{Writable}

-- by its row
not_accepted : (ok : Bool) (ss : List (List Wanted)) → None ≡ counted ok ss → ok ≡ false
not_accepted true ss e = cc
not_accepted false ss e = refl

module _ (top : ℕ) (b : BlockRow) (d : Draft) where
  pub told_11 : (buffer : List ℕ) → None ≡ counted (draft_ok b d) d.subs → write_outcome (write_refused 11) buffer ≡ written_by top (Some b) d buffer
  unfolding written_by
  told_11 buffer e = rw (not_accepted (draft_ok b d) d.subs e)

  module _ {n : ℕ} (accepting : Some n ≡ counted (draft_ok b d) d.subs) where
    accepted : draft_ok b d ≡ true
    accepted = (cond_some (draft_ok b d) (length d.subs) n (sym accepting)).0

    counted_is : n ≡ length d.subs
    counted_is = sym (cond_some (draft_ok b d) (length d.subs) n (sym accepting)).1

    pub told_revision : d.revision ≤ 7
    told_revision = (admitted b d accepted).revision

    pub told_few : n ≤ 255
    told_few = let e = counted_is in let m = (admitted b d accepted).few in omega arith

    module _ {z : Measured} (sizing : Sizing b d.revision n z) (buffer : List ℕ) where
      abbrev roomy : Bool
      roomy = leb z.all (length buffer) && leb z.all top && leb z.sub 255

      all_is : z.all ≡ block_length b d
      all_is = sizing.all ∙ ap (λ (k : ℕ). 4 * ((block_end_by b d.revision k + 3) / 4)) counted_is

      sub_is : z.sub ≡ sb_length b d
      sub_is = sizing.sub ∙ ap (sb_length_by b d.revision) counted_is

      room_is : roomy ≡ room_for top b d (length buffer)
      unfolding room_for
      room_is = rw (all_is, sub_is)

      pub told_12 : roomy ≡ false → write_outcome (write_refused 12) buffer ≡ written_by top (Some b) d buffer
      unfolding written_by
      told_12 e = rw (accepted, sym room_is ∙ e)

      module _ (room : roomy ≡ true) where
        pub told_writable : block_ok b ≡ true → b.firsts ≡ 0 → Writable b d n z (length buffer)
        told_writable rules one =
            let x = both (leb z.all (length buffer) && leb z.all top) _ room in
            record {
              rules = rules;
              one = one;
              ok = accepted;
              count = counted_is;
              sizes = sizing;
              fits = leb-true _ _ (both (leb z.all (length buffer)) _ x.0).0;
              small = leb-true _ _ x.1;
            }

        pub told_length : {next : List ℕ} → next ≡ over (block_bytes b d) buffer → write_outcome (wrote z.all) next ≡ written_by top (Some b) d buffer
        unfolding written_by
        told_length e = rw (accepted, sym room_is ∙ room, e, all_is)

-- by a table
no_number : (n : ℕ) (bs : List BlockRow) → every number_ok bs ≡ true → 8191 < n → first_that (has_number n) bs ≡ None
unfolding every first_that
no_number n [] e h = refl
no_number n (b ∷ bs) e h =
    let a = both (number_ok b) _ e in
    let l : b.number ≤ 8191 = leb-true _ _ a.0 in
    let m : (b.number ≡ n → ⊥) = λ q. omega arith in
    rw (ne_eqb b.number n m) (no_number n bs a.1 h)

-- a row of two levels, and one of one level
two_refused : (top : ℕ) (b : BlockRow) → (b.firsts ≡ 0 → ⊥) → (d : Draft) (buffer : List ℕ) → write_outcome (write_refused 6) buffer ≡ written_by top (writable_row (Some b)) d buffer
unfolding written_by
two_refused top b two d buffer = rw (ne_eqb b.firsts 0 two)

one_writable : (b : BlockRow) → b.firsts ≡ 0 → writable_row (Some b) ≡ Some b
one_writable b one = rw (eq-eqb b.firsts 0 one)

module _ (top : ℕ) (t : List ℕ) (d : Draft) (buffer : List ℕ) where
  pub told_high : table_ok t ≡ true → 65535 < d.number → write_outcome (write_refused 6) buffer ≡ written_of top (decode t) d buffer
  unfolding written_of written_by find_row
  told_high ok h = rw (no_number d.number (decode t).rows (passed t ok).meaning.numbers (omega arith))

  module _ {n : ℕ} (same : n ≡ d.number) where
    by_row : {x : Option BlockRow} → x ≡ find_row (decode t) n → written_by top (writable_row x) d buffer ≡ written_of top (decode t) d buffer
    unfolding written_of
    by_row e = ap (λ (y : Option BlockRow). written_by top (writable_row y) d buffer) (e ∙ ap (find_row (decode t)) same)

    pub told_6 : Finding t n None → write_outcome (write_refused 6) buffer ≡ written_of top (decode t) d buffer
    unfolding written_by
    told_6 finding = by_row finding.is

    module _ {row : Shape} (finding : Finding t n (Some row)) where
      -- W1: by a row of two levels nothing is written
      pub told_two : (row.firsts ≡ 0 → ⊥) → write_outcome (write_refused 6) buffer ≡ written_of top (decode t) d buffer
      told_two two = two_refused top (shape_says row) two d buffer ∙ by_row finding.is

      -- and by one of one level the row decides
      pub told_found : row.firsts ≡ 0 → {o : WriteOutcome} → o ≡ written_by top (Some (shape_says row)) d buffer → o ≡ written_of top (decode t) d buffer
      told_found one g = g ∙ ap (λ (x : Option BlockRow). written_by top x d buffer) (sym (one_writable (shape_says row) one)) ∙ by_row finding.is
