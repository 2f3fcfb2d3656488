-- Write: the tests of the definitions, in R20's order, give the first condition that holds; refused, it leaves its buffer as it was, and
-- else what stands behind the block.
-- Assumes nothing.
use Prim.Native.Nat.{ℕ, ◌<◌}
use native.Mathlib.Omega.{arith}
use mathlib.Core.Path.{◌≡◌, refl, ap, subst}
use mathlib.Core.Bool.{Bool, true, false, cond}
use mathlib.Core.List.{List, [], ◌∷◌}
use mathlib.Core.Logic.{◌⊎◌, inl, inr, ⊎_elim}
use Rattle.std.proofs.Common.{Option, None, Some}
use lib.ListN.{length, drop}
use lib.Dec.{eqb}
use borrow.Author.Tests.{eqb-true}
use Rattle.wire.proofs.Tests.{never}
use Rattle.copy.specs.Over.{over}
use Rattle.table.specs.Rows.{BlockRow}
use Rattle.table.specs.Decode.{decode}
use Rattle.table.specs.Rules.{table_ok}
use Rattle.table.specs.Lookup.{find_row}
use Rattle.reader.specs.Refusals.{need}
use Rattle.records.specs.Calls.{table_in_force, ask_refusal, first_of}
use Rattle.records.proofs.Asking.{asked}
use Rattle.draft.specs.Draft.{Draft, draft_ok, block_length, room_for}
use Rattle.draft.proofs.Admitted.{admitted, roomy}
use Rattle.writer.specs.Block.{block_bytes}
use Rattle.writer.specs.Write.{wrote, WriteOutcome, write_outcome, refuses_write, written_by, writable_row, written_of}
use Rattle.writes.specs.Calls.{written_unless, write_of}
use Rattle.reader.specs.State.{ceiling_of}
use Rattle.demands.specs.World.{World, write, look, write_refusal, write_length, told, step}
use Rattle.demands.specs.Refusals.{RowOf, OfRow, NotInTable, CannotStand, HasNoRoom, ◌when◌, Exactly, order}
use Rattle.demands.proofs.Exact.{empty_tells}
use Rattle.demands.proofs.Listed.{nothing_there}
use Rattle.demands.proofs.Fits.{row_there, row_none, only, of_row}
use Rattle.demands.proofs.Asked.{same, passed_by, last, ask_exact}
use Rattle.demands.proofs.Ruled.{ruled}
use Rattle.demands.proofs.Drafts.{stand_tells}
use Rattle.demands.proofs.Room.{room_tells}
use Rattle.demands.proofs.Behind.{behind, as_long}

-- ---- 6, 11, 12

row_need : (top : ℕ) (r : BlockRow) (d : Draft) (buffer : List ℕ)
    → write_refusal (written_by top (Some r) d buffer).said ≡ need (draft_ok r d) 11 (need (room_for top r d (length buffer)) 12 None)
unfolding written_by
row_need top r d buffer = by (draft_ok r d) (room_for top r d (length buffer)) where
  by : (a b : Bool)
      → write_refusal (cond a (cond b (write_outcome (wrote (block_length r d)) (over (block_bytes r d) buffer)) (refuses_write 12 buffer)) (refuses_write 11 buffer)).said
      ≡ need a 11 (need b 12 None)
  by true true = refl
  by true false = refl
  by false b = refl

module _ (top : ℕ) (t : List ℕ) (ok : table_ok t ≡ true) (d : Draft) (buffer : List ℕ) where
  abbrev NotWritten : Type 0
  NotWritten = NotInTable (decode t) d.number ⊎ OfRow (decode t) d.number (λ r. 0 < r.firsts)

  -- R6: by a row of one level Write writes, and by one of two levels not
  one_exact : (r : BlockRow) → RowOf (decode t) d.number r → (c : Bool) → eqb r.firsts 0 ≡ c
      → Exactly (write_refusal (written_by top (cond c (Some r) None) d buffer).said)
      (6 when NotWritten
      ∷ 11 when OfRow (decode t) d.number (λ r. CannotStand r d)
      ∷ 12 when OfRow (decode t) d.number (λ r. HasNoRoom top (length buffer) r d)
      ∷ [])
  unfolding written_by
  one_exact r h true f =
      let one : (q : BlockRow) → RowOf (decode t) d.number q → q ≡ r = λ q k. only t d.number ok q r k h in
      let level : r.firsts ≡ 0 = eqb-true r.firsts 0 f in
      let right = ruled t ok d.number r h level in
      let fine : NotWritten → ⊥ =
      ⊎_elim (λ g. g r h)
      (λ g. let e : g.0.firsts ≡ r.firsts = ap (λ (x : BlockRow). x.firsts) (one g.0 g.1.0) in omega (arith, e, level, g.1.1)) in
      same (row_need top r d buffer)
      (passed_by true 6 _ (record { fine = λ _ g. fine g; holds = λ z. never refl z })
      (λ _. passed_by (draft_ok r d) 11 _ (of_row (decode t) d.number r h one (λ q. CannotStand q d) (stand_tells r d right))
      (λ a. last 12 (of_row (decode t) d.number r h one (λ q. HasNoRoom top (length buffer) q d) (room_tells r d right (admitted r d a) top (length buffer))))))
  one_exact r h false f =
      let level : 0 < r.firsts = (empty_tells r.firsts).holds f in
      passed_by false 6 None (record { fine = λ z. never z refl; holds = λ _. inr (r, (h, level)) }) (λ z. never z refl)

  row_exact : (o : Option BlockRow) → find_row (decode t) d.number ≡ o
      → Exactly (write_refusal (written_by top (writable_row o) d buffer).said)
      (6 when NotWritten
      ∷ 11 when OfRow (decode t) d.number (λ r. CannotStand r d)
      ∷ 12 when OfRow (decode t) d.number (λ r. HasNoRoom top (length buffer) r d)
      ∷ [])
  unfolding written_by
  row_exact None e =
      passed_by false 6 None (record { fine = λ z. never z refl; holds = λ _. inl (row_none (decode t) d.number e) }) (λ z. never z refl)
  row_exact (Some r) e = one_exact r (row_there (decode t) d.number e) (eqb r.firsts 0) refl

  -- what stands behind an accepted block
  behind_row : (r : BlockRow) → RowOf (decode t) d.number r → r.firsts ≡ 0 → (n : ℕ) → write_length (written_by top (Some r) d buffer).said ≡ Some n
      → (drop n (written_by top (Some r) d buffer).buffer ≡ drop n buffer) × (length (written_by top (Some r) d buffer).buffer ≡ length buffer)
  unfolding written_by
  behind_row r e level n w = by (draft_ok r d) refl (room_for top r d (length buffer)) refl w where
    by : (a : Bool) → draft_ok r d ≡ a → (b : Bool) → room_for top r d (length buffer) ≡ b
        → write_length (cond a (cond b (write_outcome (wrote (block_length r d)) (over (block_bytes r d) buffer)) (refuses_write 12 buffer)) (refuses_write 11 buffer)).said ≡ Some n
        → let x = cond a (cond b (write_outcome (wrote (block_length r d)) (over (block_bytes r d) buffer)) (refuses_write 12 buffer)) (refuses_write 11 buffer) in
        (drop n x.buffer ≡ drop n buffer) × (length x.buffer ≡ length buffer)
    by true f true g h =
        let right = ruled t ok d.number r e level in
        let q : block_length r d ≡ n = cc in
        subst (λ (k : ℕ). (drop k (over (block_bytes r d) buffer) ≡ drop k buffer) × (length (over (block_bytes r d) buffer) ≡ length buffer)) q
        (behind r d right buffer, as_long r d right buffer (roomy top r d (length buffer) g).buffer)
    by true f false g h = nothing_there h
    by false f b g h = nothing_there h

  behind_one : (r : BlockRow) → RowOf (decode t) d.number r → (c : Bool) → eqb r.firsts 0 ≡ c → (n : ℕ)
      → write_length (written_by top (cond c (Some r) None) d buffer).said ≡ Some n
      → (drop n (written_by top (cond c (Some r) None) d buffer).buffer ≡ drop n buffer) × (length (written_by top (cond c (Some r) None) d buffer).buffer ≡ length buffer)
  unfolding written_by
  behind_one r h true f n w = behind_row r h (eqb-true r.firsts 0 f) n w
  behind_one r h false f n w = nothing_there w

  behind_by : (o : Option BlockRow) → find_row (decode t) d.number ≡ o → (n : ℕ) → write_length (written_by top (writable_row o) d buffer).said ≡ Some n
      → (drop n (written_by top (writable_row o) d buffer).buffer ≡ drop n buffer) × (length (written_by top (writable_row o) d buffer).buffer ≡ length buffer)
  unfolding written_by
  behind_by None e n w = nothing_there w
  behind_by (Some r) e n w = behind_one r (row_there (decode t) d.number e) (eqb r.firsts 0) refl n w

-- ---- 1, 5, 4, and then these

number_unless : (o : Option ℕ) (buffer : List ℕ) (x : WriteOutcome) → write_refusal (written_unless o buffer x).said ≡ first_of o (write_refusal x.said)
number_unless None buffer x = refl
number_unless (Some n) buffer x = refl

pub write_exact : (w : World) (d : Draft) (buffer : List ℕ) → Exactly (write_refusal (write_of w.state w.force d buffer).said) (order (look (write d buffer)) w)
unfolding write_of written_of
write_exact w d buffer =
    let t = table_in_force w.state w.force in
    same (number_unless (ask_refusal w.state w.force) buffer _)
    (ask_exact w _ (λ ok. row_exact (ceiling_of w.state) t ok d buffer (find_row (decode t) d.number) refl))

-- ---- the buffer

kept_by : (top : ℕ) (o : Option BlockRow) (d : Draft) (buffer : List ℕ) (n : ℕ) → write_refusal (written_by top o d buffer).said ≡ Some n → (written_by top o d buffer).buffer ≡ buffer
unfolding written_by
kept_by top None d buffer n e = refl
kept_by top (Some r) d buffer n e = by (draft_ok r d) (room_for top r d (length buffer)) e where
  by : (a b : Bool)
      → write_refusal (cond a (cond b (write_outcome (wrote (block_length r d)) (over (block_bytes r d) buffer)) (refuses_write 12 buffer)) (refuses_write 11 buffer)).said ≡ Some n
      → (cond a (cond b (write_outcome (wrote (block_length r d)) (over (block_bytes r d) buffer)) (refuses_write 12 buffer)) (refuses_write 11 buffer)).buffer ≡ buffer
  by true true f = nothing_there f
  by true false f = refl
  by false b f = refl

unless_keeps : (o : Option ℕ) (buffer : List ℕ) (x : WriteOutcome) (n : ℕ) → (write_refusal x.said ≡ Some n → x.buffer ≡ buffer)
    → write_refusal (written_unless o buffer x).said ≡ Some n → (written_unless o buffer x).buffer ≡ buffer
unless_keeps None buffer x n h e = h e
unless_keeps (Some m) buffer x n h e = refl

pub unwritten : (d : Draft) (buffer : List ℕ) (w : World) (n : ℕ) → (told (step (look (write d buffer)) w).answer).refusal ≡ Some n
    → (told (step (look (write d buffer)) w).answer).buffer ≡ Some buffer
unfolding step write_of written_of
unwritten d buffer w n e =
    ap Some (unless_keeps (ask_refusal w.state w.force) buffer _ n (kept_by (ceiling_of w.state) (writable_row (find_row (decode (table_in_force w.state w.force)) d.number)) d buffer n) e)

-- a call that wrote was not refused with 1, 5 or 4
behind_unless : (o : Option ℕ) (buffer after : List ℕ) (x : WriteOutcome) (n : ℕ)
    → (o ≡ None → write_length x.said ≡ Some n → (drop n x.buffer ≡ drop n buffer) × (length x.buffer ≡ length buffer))
    → write_length (written_unless o buffer x).said ≡ Some n → (written_unless o buffer x).buffer ≡ after
    → (drop n after ≡ drop n buffer) × (length after ≡ length buffer)
behind_unless None buffer after x n h e f =
    subst (λ (b : List ℕ). (drop n b ≡ drop n buffer) × (length b ≡ length buffer)) f (h refl e)
behind_unless (Some m) buffer after x n h e f = nothing_there e

pub kept_behind : (d : Draft) (buffer after : List ℕ) (w : World) (n : ℕ) → (told (step (look (write d buffer)) w).answer).wrote ≡ Some n
    → (told (step (look (write d buffer)) w).answer).buffer ≡ Some after → (drop n after ≡ drop n buffer) × (length after ≡ length buffer)
unfolding step write_of written_of
kept_behind d buffer after w n e f =
    let s = w.state in
    let t = table_in_force w.state w.force in
    let q : (write_of w.state w.force d buffer).buffer ≡ after = cc in
    behind_unless (ask_refusal s w.force) buffer after _ n
    (λ none-due. behind_by (ceiling_of s) t (asked s w.force none-due).ok d buffer (find_row (decode t) d.number) refl n) e q
