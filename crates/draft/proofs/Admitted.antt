-- What R11 and R12 say of a draft that may stand in a block of its row and has room, each by its name.
-- Assumes nothing.
use mathlib.Core.Bool.{Bool, true, false, ◌&&◌, cond}
use mathlib.Core.Path.{◌≡◌, refl}
use Prim.Native.Nat.{ℕ, ◌≤◌}
use native.Mathlib.Omega.{arith}
use lib.Dec.{leb, eqb}
use lib.ListN.{length}
use borrow.Author.Tests.{leb-true, eqb-true}
use Rattle.table.specs.Lists.{every}
use Rattle.table.specs.Rows.{BlockRow}
use Rattle.block.specs.Block.{has_subs}
use Rattle.wire.proofs.Tests.{both, never}
use Rattle.entry.specs.Bits.{list_ok}
use Rattle.draft.specs.Draft.{Draft, stamps_ok, body_ok, subs_ok, draft_ok, sb_length, block_length, room_for}

-- R11, in parts
pub record Admitted (r : BlockRow) (d : Draft) : Type 0 where
  pub revision : d.revision ≤ 7
  pub stamps : stamps_ok d ≡ true
  pub body : body_ok r d ≡ true
  pub subs : subs_ok r d ≡ true
  pub few : length d.subs ≤ 255
  -- no sub-blocks without sub-fields
  pub alone : has_subs r ≡ false → length d.subs ≡ 0

few_by : (h listed : Bool) (n : ℕ) → cond h (leb n 255 && listed) (eqb n 0) ≡ true → (n ≤ 255) × (h ≡ false → n ≡ 0)
few_by true listed n e = (leb-true n 255 (both (leb n 255) listed e).0, λ f. never refl f)
few_by false listed n e = let z : n ≡ 0 = eqb-true n 0 e in (omega arith, λ f. z)

pub admitted : (r : BlockRow) (d : Draft) → draft_ok r d ≡ true → Admitted r d
unfolding draft_ok subs_ok
admitted r d e =
    let a = both (leb d.revision 7 && stamps_ok d && body_ok r d) _ e in
    let b = both (leb d.revision 7 && stamps_ok d) _ a.0 in
    let c = both (leb d.revision 7) _ b.0 in
    let f = few_by (has_subs r) (every (list_ok d.revision r.subs) d.subs) (length d.subs) a.1 in
    record { revision = leb-true _ _ c.0; stamps = c.1; body = b.1; subs = a.1; few = f.0; alone = f.1 }

-- the values of the body, and of the sub-blocks
module _ {r : BlockRow} {d : Draft} (a : Admitted r d) where
  pub values_allowed : has_subs r ≡ false → list_ok d.revision r.body d.body ≡ true
  unfolding body_ok
  values_allowed e = rw e at a.body

  pub lists-allowed : has_subs r ≡ true → every (list_ok d.revision r.subs) d.subs ≡ true
  unfolding subs_ok
  lists-allowed e = (both (leb (length d.subs) 255) _ (rw e at a.subs)).1

-- R12, in parts
pub record Roomy (c : ℕ) (r : BlockRow) (d : Draft) (n : ℕ) : Type 0 where
  pub buffer : block_length r d ≤ n
  pub most : block_length r d ≤ c
  pub sub : sb_length r d ≤ 255

pub roomy : (c : ℕ) (r : BlockRow) (d : Draft) (n : ℕ) → room_for c r d n ≡ true → Roomy c r d n
unfolding room_for
roomy c r d n e =
    let a = both (leb (block_length r d) n && leb (block_length r d) c) _ e in
    let b = both (leb (block_length r d) n) _ a.0 in
    record { buffer = leb-true _ _ b.0; most = leb-true _ _ b.1; sub = leb-true _ _ a.1 }
