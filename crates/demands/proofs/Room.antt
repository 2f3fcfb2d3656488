-- R12: the length of the block is the least that holds it, since where the last carried field ends is the least that holds the fields.
-- Assumes nothing.
use Prim.Native.Nat.{ℕ, ◌+◌, ◌*◌, ◌%◌, ◌≤◌, ◌<◌}
use native.Mathlib.Omega.{arith}
use native.Mathlib.Nat.{mul-le-mul_left}
use mathlib.Core.Path.{◌≡◌, ap}
use mathlib.Core.List.{List}
use Rattle.std.proofs.Common.{Some}
use lib.ListN.{length}
use lib.Dec.{leb}
use borrow.Author.Tests.{leb-true, leb-false}
use Rattle.wire.proofs.Tests.{bool?, lt?}
use Rattle.rows.specs.declared.FieldRow.{FieldRow}
use Rattle.table.specs.Lists.{every, pick}
use Rattle.table.specs.Rows.{BlockRow, ends}
use Rattle.block.specs.Block.{ends_by}
use Rattle.draft.specs.Draft.{Draft, block_end_by, sb_length, block_end, round_up, block_length, room_for}
use Rattle.demands.specs.Refusals.{EndsPast, HoldsBlock, LongerThan, HasNoRoom}
use Rattle.draft.proofs.Ends.{sub_none, sub-some, end_alone, body_within, round-holds}
use Rattle.draft.proofs.Admitted.{Admitted}
use Rattle.lay.proofs.Laying.{at_last}
use Rattle.lay.proofs.Ends.{last_holds, last_least}
use Rattle.writer.proofs.Rows.{RowKept, body_sixteen}
use Rattle.demands.proofs.Exact.{Tells, both, regroup}
use Rattle.demands.proofs.Fits.{past_tells}

-- nothing ends past n
ends_by_lem : (fs : List FieldRow) (revision n : ℕ) → (EndsPast fs revision n → ⊥) → (i : ℕ) (g : FieldRow) → pick fs i ≡ Some g → g.first ≤ revision → ends g ≤ n
ends_by_lem fs revision n h i g e l = lt? n (ends g) (λ m. absurd (h (g, ((i, e), (l, m))))) (λ m. m)

-- ---- the block's length

round_four : (n : ℕ) → round_up n % 4 ≡ 0
round_four n = omega arith

round_least : (n k : ℕ) → n ≤ k → k % 4 ≡ 0 → round_up n ≤ k
round_least n k l e = omega arith

module _ (r : BlockRow) (d : Draft) (k : RowKept r) (a : Admitted r d) where
  end_some : 0 < length d.subs → block_end r d ≡ 16 + length d.subs * sb_length r d
  unfolding block_end_by
  end_some l = ap (λ (n : ℕ). n + length d.subs * sb_length r d) (body_sixteen r d k a l)

  holds_all : HoldsBlock r d (sb_length r d) (block_length r d)
  holds_all =
      let c = body_within r d in
      let b = round-holds (block_end r d) in
      record {
        stamps = omega (arith, at_last d.revision 14 r.body k.body.order, c, b);
        body = λ g. omega (arith, last_holds d.revision 14 r.body k.body.order g.1.0.0 g.0 g.1.0.1 g.1.1.0, c, b, g.1.1.1);
        inner = λ l g. omega (arith, last_holds d.revision 0 r.subs k.subs.order g.1.0.0 g.0 g.1.0.1 g.1.1.0, sub-some r d l, g.1.1.1);
        subs = λ l. omega (arith, end_some l, b);
      }

  least_end : (m n : ℕ) → HoldsBlock r d m n → block_end r d ≤ n
  least_end m n h =
      lt? 0 (length d.subs)
      (λ l.
      let c = last_least d.revision 0 r.subs m (omega arith) (ends_by_lem r.subs d.revision m (h.inner l)) in
      let b : sb_length r d ≤ m = omega (arith, c, sub-some r d l) in
      omega (arith, end_some l, h.subs l, mul-le-mul_left (length d.subs) b))
      (λ l. omega (arith, end_alone r d (omega arith), last_least d.revision 14 r.body n h.stamps (ends_by_lem r.body d.revision n h.body)))

  pub longer_tells : (n : ℕ) → Tells (leb (block_length r d) n) (LongerThan r d n)
  longer_tells n =
      record {
        fine = λ e g. g (sb_length r d) (block_length r d) holds_all (round_four (block_end r d)) (leb-true (block_length r d) n e);
        holds = λ e m i h z l. let f = leb-false (block_length r d) n e in omega (arith, f, round_least (block_end r d) i (least_end m i h) z, l);
      }

  past : 255 < sb_length r d → 0 < length d.subs → EndsPast r.subs d.revision 255
  past l m =
      let t = past_tells r.subs d.revision 255 in
      bool? (every (ends_by d.revision 255) r.subs)
      (λ e. let z : ⊥ = omega (arith, l, sub-some r d m, last_least d.revision 0 r.subs 255 (omega arith) (ends_by_lem r.subs d.revision 255 (t.fine e))) in absurd z)
      t.holds

  wide_tells : Tells (leb (sb_length r d) 255) ((0 < length d.subs) × EndsPast r.subs d.revision 255)
  wide_tells =
      record {
        fine = λ e g.
            let l = leb-true (sb_length r d) 255 e in
            let p = g.1 in
            omega (arith, l, sub-some r d g.0, last_holds d.revision 0 r.subs k.subs.order p.1.0.0 p.0 p.1.0.1 p.1.1.0, p.1.1.1);
        holds = λ e.
            let l = leb-false (sb_length r d) 255 e in
            lt? 0 (length d.subs) (λ m. (m, past l m)) (λ m. let z : ⊥ = omega (arith, l, sub_none r d (omega arith)) in absurd z);
      }

  pub room_tells : (top n : ℕ) → Tells (room_for top r d n) (HasNoRoom top n r d)
  unfolding room_for
  room_tells top n = regroup (both (both (longer_tells n) (longer_tells top)) wide_tells)
