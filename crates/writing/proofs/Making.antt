-- What it says of a draft and a buffer that Write made a block, under any ceiling that there is: nothing was refused, and the block is
-- the bytes of its draft.
-- Assumes nothing.
use mathlib.Core.Bool.{Bool, true, false, cond}
use mathlib.Core.List.{List, ◌++◌}
use Rattle.std.proofs.Common.{Option, None, Some}
use mathlib.Core.Path.{◌≡◌, refl, sym, ap, ◌∙◌}
use Prim.Native.Nat.{ℕ}
use native.Mathlib.Omega.{arith}
use lib.ListN.{length, take, drop}
use lib.Seq.{take_at}
use borrow.Author.Tests.{eqb-true, eq-eqb}
use Rattle.frame.specs.Frame.{greatest_ceiling}
use Rattle.table.specs.Rows.{BlockRow, Table, one_level}
use Rattle.copy.specs.Over.{over}
use Rattle.draft.specs.Draft.{Draft, draft_ok, block_length, room_for}
use Rattle.writer.specs.Block.{block_bytes}
use Rattle.writer.specs.Write.{wrote, write_refused, WriteOutcome, write_outcome, refuses_write, written_by, writable_row, written_of}
use Rattle.writing.specs.Theorems.{Made}
use Rattle.frame.proofs.View.{ceilings}
use Rattle.draft.proofs.Admitted.{Admitted, admitted, Roomy, roomy}
use Rattle.writer.proofs.Lengths.{length_block}
use Rattle.writing.proofs.Rows.{FoundKept, found_kept}

-- what was written was refused by none of the tests
pub refused_none : (n m : ℕ) {X : Type 0} → write_refused n ≡ wrote m → X
refused_none n m e = let z : ◌≡◌ {A = ℕ} 0 1 = cc e in let f : ⊥ = omega arith in absurd f

by_tests : (a c : Bool) (n m : ℕ) (bytes buffer : List ℕ)
    → (cond a (cond c (write_outcome (wrote n) bytes) (refuses_write 12 buffer)) (refuses_write 11 buffer)).said ≡ wrote m
    → (a ≡ true) × (c ≡ true)
by_tests true true n m bytes buffer e = (refl, refl)
by_tests true false n m bytes buffer e = refused_none 12 m e
by_tests false c n m bytes buffer e = refused_none 11 m e

-- R6, W1: a row by which something was written is of one level
one_by_lem : (c : ℕ) (x : Bool) (r : BlockRow) (d : Draft) (buffer : List ℕ) (n : ℕ) → (written_by c (cond x (Some r) None) d buffer).said ≡ wrote n → x ≡ true
unfolding written_by
one_by_lem c true r d buffer n e = refl
one_by_lem c false r d buffer n e = refused_none 6 n e

pub one_written : (c : ℕ) (r : BlockRow) (d : Draft) (buffer : List ℕ) (n : ℕ) → (written_by c (writable_row (Some r)) d buffer).said ≡ wrote n → r.firsts ≡ 0
one_written c r d buffer n e = eqb-true _ _ (one_by_lem c (one_level r) r d buffer n e)

-- and by such a row Write writes
pub writes_by : (r : BlockRow) → r.firsts ≡ 0 → writable_row (Some r) ≡ Some r
writes_by r one = rw (eq-eqb r.firsts 0 one)

pub record Making (tab : Table) (r : BlockRow) (d : Draft) (buffer b : List ℕ) : Type 0 where
  pub found : FoundKept d.number r
  pub draft : Admitted r d
  pub room : Roomy greatest_ceiling r d (length buffer)
  pub size : length b ≡ block_length r d
  pub bytes : b ≡ block_bytes r d

said_by : (n m : ℕ) → wrote n ≡ wrote m → n ≡ m
said_by n m e = cc e

pub making : (c : ℕ) (tab : Table) (r : BlockRow) (d : Draft) (buffer b : List ℕ) → Made c tab r d buffer b → Making tab r d buffer b
unfolding written_of written_by
making c tab r d buffer b m =
    let g : written_of c tab d buffer ≡ written_by c (writable_row (Some r)) d buffer =
    ap (λ (x : Option BlockRow). written_by c (writable_row x) d buffer) m.found in
    let one = one_written c r d buffer (length b) (ap (λ (x : WriteOutcome). x.said) (sym g) ∙ m.answer) in
    let f = found_kept tab d.number r m.right m.found one in
    let o : written_of c tab d buffer ≡ written_by c (Some r) d buffer = g ∙ ap (λ (x : Option BlockRow). written_by c x d buffer) (writes_by r one) in
    let whole = over (block_bytes r d) buffer in
    let s = ap (λ (x : WriteOutcome). x.said) (sym o) ∙ m.answer in
    let t = by_tests (draft_ok r d) (room_for c r d (length buffer)) (block_length r d) (length b) whole buffer s in
    let w : written_by c (Some r) d buffer ≡ write_outcome (wrote (block_length r d)) whole = rw (t.0, t.1) in
    let n : block_length r d ≡ length b = said_by _ _ (ap (λ (x : WriteOutcome). x.said) (sym (o ∙ w)) ∙ m.answer) in
    let size : length (block_bytes r d) ≡ length b = length_block r d f.kept ∙ n in
    let front : take (length b) (block_bytes r d ++ drop (length (block_bytes r d)) buffer) ≡ b =
    ap (λ (x : WriteOutcome). take (length b) x.buffer) (sym (o ∙ w)) ∙ m.front in
    let roomed = roomy c r d (length buffer) t.1 in
    record {
      found = f;
      draft = admitted r d t.0;
      room = record { buffer = roomed.buffer; most = omega (arith, roomed.most, (ceilings c m.ceiling).high); sub = roomed.sub };
      size = sym n;
      bytes = sym front ∙ take_at (block_bytes r d) (drop (length (block_bytes r d)) buffer) (length b) size;
    }
