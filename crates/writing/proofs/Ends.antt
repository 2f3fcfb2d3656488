-- Where the last carried field ends is the least that holds the carried ones; so SBLength and L are the least that hold theirs.
-- Assumes nothing.
use mathlib.Core.Path.{◌≡◌}
use Prim.Native.Nat.{ℕ, ◌%◌, ◌<◌, ◌≤◌}
use native.Mathlib.Omega.{arith}
use lib.ListN.{length}
use Rattle.table.specs.Rows.{BlockRow}
use Rattle.draft.specs.Draft.{Draft, block_end_by, sb_length, block_end, block_length}
use Rattle.writing.specs.Holds.{HoldsFields, Holds}
use Rattle.writing.specs.Theorems.{AllShortest}
use Rattle.wire.proofs.Tests.{eq?}
use Rattle.draft.proofs.Ends.{sub-some, sub_none, end_alone, body_within, round-holds}
use Rattle.lay.proofs.Laying.{at_last}
use Rattle.lay.proofs.Ends.{last_holds, last_least}
use Rattle.writer.proofs.Rows.{RowKept, body_sixteen}
use Rattle.draft.proofs.Admitted.{Admitted}
use Rattle.writing.proofs.Making.{making}

module _ (r : BlockRow) (d : Draft) (k : RowKept r) (a : Admitted r d) where
  pub sub_holds : 0 < length d.subs → HoldsFields d.revision r.subs (sb_length r d)
  sub_holds h = rw (sub-some r d h) (last_holds d.revision 0 r.subs k.subs.order)

  pub sub_shortest : (m : ℕ) → HoldsFields d.revision r.subs m → sb_length r d ≤ m
  sub_shortest m h =
      eq? (length d.subs) 0 (λ e. rw (sub_none r d e) (omega arith))
      (λ n. rw (sub-some r d (omega arith)) (last_least d.revision 0 r.subs m (omega arith) h))

  block_holds : Holds r d (sb_length r d) (block_length r d)
  unfolding block_end_by
  block_holds =
      let v = d.revision in
      let up = round-holds (block_end r d) in
      record {
        stamps = omega (arith, at_last v 14 r.body k.body.order, body_within r d, up);
        body = λ i f p h. omega (arith, last_holds v 14 r.body k.body.order i f p h, body_within r d, up);
        subs = λ h. omega (arith, body_sixteen r d k a h, up);
      }

  end_shortest : (m : ℕ) → Holds r d (sb_length r d) m → block_end r d ≤ m
  unfolding block_end_by
  end_shortest m h =
      eq? (length d.subs) 0
      (λ e. rw (end_alone r d e) (last_least d.revision 14 r.body m h.stamps h.body))
      (λ n. let p : 0 < length d.subs = omega arith in omega (arith, body_sixteen r d k a p, h.subs p))

  block_shortest : (m : ℕ) → m % 4 ≡ 0 → Holds r d (sb_length r d) m → block_length r d ≤ m
  block_shortest m e h = let l = end_shortest m h in omega (arith, l)

pub all_shortest : AllShortest
all_shortest c tab r d buffer b m =
    let g = making c tab r d buffer b m in
    let k = g.found.kept in
    let a = g.draft in
    rw g.size
    (record {
      sub_holds = sub_holds r d k a;
      sub_shortest = sub_shortest r d k a;
      sub_none = sub_none r d;
      multiple = omega arith;
      holds = block_holds r d k a;
      shortest = block_shortest r d k a;
    })
