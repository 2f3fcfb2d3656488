-- Body and sub-blocks, in the parts in which they are written: what each way through `put_lists` is given, and what it makes.
-- Assumes nothing.
use mathlib.Core.Bool.{true, not}
use mathlib.Core.List.{List, [], ◌∷◌, flat_map}
use mathlib.Core.Path.{◌≡◌, ap₂, ◌∙◌}
use Prim.Native.Nat.{ℕ, ◌+◌, ◌*◌, ◌/◌, ◌%◌, ◌≤◌}
use native.Mathlib.Omega.{arith}
use lib.Dec.{eqb}
use lib.ListN.{length}
use lib.Seq.{sets}
use borrow.Author.Tests.{ne_eqb}
use Rattle.std.proofs.lemmas.List.{length-map}
use Rattle.table.specs.Lists.{every}
use Rattle.table.specs.declared.Shape.{Shape}
use Rattle.table.specs.Shape.{fields_of, shape_says}
use Rattle.table.specs.Rows.{BlockRow}
use Rattle.block.specs.Block.{has_subs}
use Rattle.pen.specs.Bytes.{little_bytes}
use Rattle.wire.proofs.Tests.{eq?}
use Rattle.entry.specs.Wanted.{Wanted, values_in, subs_in}
use Rattle.entry.specs.Bits.{list_ok}
use Rattle.draft.specs.Draft.{last_end, sb_length_by, block_end_by}
use Rattle.draft.specs.Code.{subs_from}
use Rattle.lay.specs.Fields.{laid}
use Rattle.writer.specs.Code.{lists_out, Ready}

-- N and SBLength, a byte each
pub two_bytes : (n s : ℕ) → n ≤ 255 → s ≤ 255 → little_bytes 2 (n + 256 * s) ≡ n ∷ s ∷ []
unfolding little_bytes
two_bytes n s a b =
    let x : (n + 256 * s) % 256 ≡ n = omega arith in
    let d : (n + 256 * s) / 256 ≡ s = omega arith in
    let y : (n + 256 * s) / 256 % 256 ≡ s = rw d (omega arith) in
    ap₂ (λ (u v : ℕ). u ∷ v ∷ []) x y

-- no sub-block is as long as it would be
pub no_length : (b : BlockRow) (revision n : ℕ) → n * last_end revision 0 b.subs ≡ n * sb_length_by b revision n
unfolding sb_length_by
no_length b revision n = eq? n 0 (λ e. rw e (omega arith)) (λ e. rw (ne_eqb n 0 e))

module _ (row : Shape) {revision : ℕ} {kinds bits : List ℕ} {subs sub room : ℕ} (ready : Ready (shape_says row) revision kinds bits subs sub room) where
  has_subs_lem : has_subs (shape_says row) ≡ not (eqb (length row.subs.now) 0)
  has_subs_lem = rw length-map

  -- without sub-fields
  pub body_fits_lem : 0 + last_end revision 14 (fields_of row.body.now) ≤ room
  unfolding block_end_by
  body_fits_lem = let h = ready.ends in omega arith

  pub body-allowed : length row.subs.now ≡ 0 → list_ok revision (fields_of row.body.now) (values_in kinds bits) ≡ true
  body-allowed z = ready.values (has_subs_lem ∙ rw z)

  pub body_out : length row.subs.now ≡ 0 → laid revision 14 (fields_of row.body.now) (values_in kinds bits) ≡ lists_out (shape_says row) revision kinds bits
  unfolding lists_out
  body_out z = rw (has_subs_lem, z)

  -- with sub-fields
  module _ (z : length row.subs.now ≡ 0 → ⊥) where
    some_subs : has_subs (shape_says row) ≡ true
    some_subs = has_subs_lem ∙ rw (ne_eqb (length row.subs.now) 0 z)

    pub subs_allowed_lem : (p : ℕ) → subs_from kinds bits p ≡ subs_from kinds bits 0 → every (list_ok revision (fields_of row.subs.now)) (subs_from kinds bits p) ≡ true
    subs_allowed_lem p e = rw e (ready.lists some_subs)

    pub subs_fit_lem : {ss : List (List Wanted)} → ss ≡ subs_in kinds bits → 16 + length ss * last_end revision 0 (fields_of row.subs.now) ≤ room
    unfolding block_end_by
    subs_fit_lem e =
        let n = no_length (shape_says row) revision subs in
        let m = ready.pair some_subs in
        let h = ready.ends in
        rw (e, ← ready.count) (omega arith)

    pub subs_out : {ss : List (List Wanted)} → ss ≡ subs_in kinds bits → (out : List ℕ) {mid last : List ℕ}
        → mid ≡ sets out 14 (little_bytes 2 (subs + 256 * sub))
        → last ≡ sets mid 16 (flat_map (laid revision 0 (fields_of row.subs.now)) ss)
        → last ≡ sets out 14 (lists_out (shape_says row) revision kinds bits)
    unfolding lists_out
    subs_out e out j k = k ∙ rw (j, two_bytes subs sub ready.few ready.small, e, some_subs, ready.size, ready.count)
