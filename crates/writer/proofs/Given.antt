-- What follows of a draft that can be written: what its lists are given, and that its stores make the block.
-- Assumes nothing.
use mathlib.Core.Bool.{true}
use mathlib.Core.List.{List, []}
use mathlib.Core.Path.{◌≡◌, ap, ◌∙◌}
use Prim.Native.Nat.{ℕ, ◌+◌, ◌-◌, ◌*◌, ◌/◌, ◌≤◌}
use native.Mathlib.Omega.{arith}
use lib.ListN.{length}
use lib.Seq.{sets}
use Rattle.table.specs.Rows.{BlockRow}
use Rattle.copy.specs.Over.{over}
use Rattle.pen.specs.Seal.{sealed}
use Rattle.draft.specs.declared.Head.{Head}
use Rattle.draft.specs.declared.Measured.{Measured}
use Rattle.draft.specs.Draft.{draft_of, stamps_ok, sb_length_by, sb_length, block_end_by, block_end, block_length}
use Rattle.draft.proofs.Admitted.{admitted, values_allowed, lists-allowed}
use Rattle.lay.specs.Fields.{zeros}
use Rattle.lay.proofs.Laying.{at_last}
use Rattle.writer.specs.Block.{block_bytes}
use Rattle.writer.specs.Code.{stamps_out, lists_out, Ready, Writable}
use Rattle.writer.proofs.Rows.{row_kept, pair_end}
use Rattle.writer.proofs.Whole.{block_is_lem}

module _ {b : BlockRow} (h : Head) (kinds bits : List ℕ) {subs : ℕ} {z : Measured} {room : ℕ} (w : Writable b (draft_of h kinds bits) subs z room) where
  pub given_revision : h.revision ≤ 7
  given_revision = (admitted b (draft_of h kinds bits) w.ok).revision

  pub given_stamps : stamps_ok (draft_of h [] []) ≡ true
  unfolding stamps_ok
  given_stamps = (admitted b (draft_of h kinds bits) w.ok).stamps

  pub given_end : 14 ≤ z.end
  unfolding block_end_by
  given_end = let n = at_last h.revision 14 b.body (row_kept b w.rules w.one).body.order in let e = w.sizes.end in omega arith

  pub given_all : (16 ≤ z.all) × (z.end ≤ z.all)
  given_all = let n = given_end in let e = w.sizes.end in let f = w.sizes.all in (omega arith, omega arith)

  pub given_lists : {n : ℕ} → n ≡ room → Ready b h.revision kinds bits subs z.sub n
  given_lists same =
      let n = given_all in
      let e = w.sizes.end in
      let a = admitted b (draft_of h kinds bits) w.ok in
      let few = a.few in
      let c = w.count in
      let f = w.fits in
      record {
        body = (row_kept b w.rules w.one).body.order;
        inner = (row_kept b w.rules w.one).subs.order;
        count = c;
        few = omega arith;
        size = w.sizes.sub;
        small = w.small;
        sixteen = omega arith;
        ends = omega arith;
        values = values_allowed a;
        lists = lists-allowed a;
        pair = λ y. pair_end b.body ((row_kept b w.rules w.one).pair y) h.revision;
      }

  -- by the stores that the code makes, one after the other
  pub given_stores : (s : List ℕ) → length s ≡ room → {s₁ s₂ s₃ s₄ : List ℕ} → s₁ ≡ sets s 8 (stamps_out (draft_of h [] []))
      → s₂ ≡ sets s₁ 14 (lists_out b h.revision kinds bits) → s₃ ≡ sets s₂ z.end (zeros (z.all - z.end))
      → s₄ ≡ sealed s₃ (h.number + 8192 * h.revision) z.all → s₄ ≡ over (block_bytes b (draft_of h kinds bits)) s
  given_stores s l e₁ e₂ e₃ e₄ =
      let d = draft_of h kinds bits in
      let end : z.end ≡ block_end b d = w.sizes.end ∙ ap (block_end_by b h.revision) w.count in
      let all : z.all ≡ block_length b d = w.sizes.all ∙ ap (λ (n : ℕ). 4 * ((block_end_by b h.revision n + 3) / 4)) w.count in
      let sub : z.sub ≡ sb_length b d = w.sizes.sub ∙ ap (sb_length_by b h.revision) w.count in
      let f = w.fits in
      let m = w.small in
      e₄ ∙ rw (e₃, e₂, e₁, end, all) (block_is_lem b h kinds bits w.rules w.one w.ok (omega arith) s (omega arith))
