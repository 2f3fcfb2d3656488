-- What the code keeps and counts is what the rule gives, a byte at a time.
-- Assumes nothing.
use mathlib.Core.Path.{◌≡◌, sym, ap, ap₂, ◌∙◌}
use mathlib.Core.List.{List, ◌++◌}
use Prim.Native.Nat.{ℕ, min, ◌+◌, ◌-◌, ◌≤◌}
use native.Mathlib.Nat.{zero-add}
use native.Mathlib.Omega.{arith}
use lib.ListN.{length, take, drop, length-drop}
use lib.Seq.{length-take-le, take_all, take_at, take-append-add, drop-append-le, paste}
use Rattle.frame.specs.Judge.{judged, judged_last}
use Rattle.wire.proofs.Tests.{lt?}
use Rattle.scan.specs.Settle.{Settled, settle}
use Rattle.scan.specs.Feed.{Intake, feed_lit, stop, size}
use Rattle.scan.specs.Passed.{scanned_of}
use Rattle.scan.specs.declared.Scanned.{Scanned}
use Rattle.scan.proofs.Stable.{judging, last_fits}
use Rattle.scan.proofs.Settling.{settle_rest, settle_front}
use Rattle.scan.proofs.Marks.{passed_of_skipped}
use Rattle.scan.proofs.Calls.{CallFacts, call, fed_holds}
use Rattle.scan.proofs.Literal.{to_lit, literal}
use Rattle.feed.specs.declared.HoldNumbers.{HoldNumbers}
use Rattle.feed.specs.Hold.{rest_of, numbers_of, hold_of, LeftForNext}
use Rattle.feed.proofs.Kept.{own}

-- what is looked at of the piece
looked : (room : ℕ) (piece : List ℕ) → take (min room (length piece)) piece ≡ take room piece
looked room piece =
    lt? room (length piece) (λ l. let e : min room (length piece) ≡ room = omega arith in ap (λ (k : ℕ). take k piece) e)
    (λ l. take_all (min room (length piece)) piece (omega arith) ∙ sym (take_all room piece l))

-- no more of the piece than there is room for
pub roomed : (c : ℕ) (h piece : List ℕ) (room t : ℕ) → t ≡ min room (length piece) → feed_lit c h (take t piece) (length (take t piece)) ≡ feed_lit c h piece room
roomed c h piece room t e =
    let p : List ℕ = take t piece in
    literal (judged c) (judging c) (take t piece) (length (take t piece)) h
    ∙ ap (λ (x : List ℕ). to_lit (settle (judged c) (h ++ x)) (h ++ x) (length h))
    (take_all (length (take t piece)) (take t piece) (omega arith) ∙ ap (λ (k : ℕ). take k piece) e ∙ looked room piece)
    ∙ sym (literal (judged c) (judging c) piece room h)

pub rest_length : (hold : List ℕ) (held standing : ℕ) → standing ≤ held → held ≤ length hold → length (rest_of hold held standing) ≡ held - standing
unfolding rest_of
rest_length hold held standing a b = length-take-le (held - standing) (drop standing hold) (omega (arith, length-drop standing hold))

-- ---- Feed

module _ (c : ℕ) (hold : List ℕ) (held block : ℕ) (piece : List ℕ) (room : ℕ) (front : block ≤ held) (fits : held ≤ length hold) (f : Scanned)
    (came : f ≡ scanned_of (feed_lit c (rest_of hold held block) piece room)) where
  abbrev fed : Intake
  fed = feed_lit c (rest_of hold held block) piece room

  taken_is : f.taken ≡ fed.taken
  taken_is = ap (λ (x : Scanned). x.taken) came

  passed_is : f.passed.skipped ≡ length fed.passed
  passed_is = ap (λ (x : Scanned). x.passed.skipped) came ∙ passed_of_skipped fed.passed

  block_is_lem : f.block ≡ size fed.standing
  block_is_lem = ap (λ (x : Scanned). x.block) came

  facts : CallFacts (rest_of hold held block) piece room fed
  facts = call (judged c) (judging c).fits (rest_of hold held block) piece room

  -- none is lost, no more is taken than there is room for, and the block is there whole
  pub sum : held - block + f.taken ≡ f.passed.skipped + length fed.held
  sum = omega (arith, taken_is, passed_is, facts.sum, rest_length hold held block front fits)

  pub few : f.taken ≤ min room (length piece)
  few = omega (arith, taken_is, facts.taken)

  pub whole : f.block ≤ length fed.held
  whole = omega (arith, block_is_lem, facts.front)

  pub numbers_are : ◌≡◌ {A = HoldNumbers} (record { taken = f.taken; passed = f.passed; held = held - block + f.taken - f.passed.skipped; standing = f.block }) (numbers_of fed)
  numbers_are =
      let e : held - block + f.taken - f.passed.skipped ≡ length fed.held = omega (arith, sum) in
      ap₂ (λ (x : Scanned) (k : ℕ). record { taken = x.taken; passed = x.passed; held = k; standing = x.block }) came e

  pub kept : {h : List ℕ}
      → h ≡ drop f.passed.skipped (take (held - block + f.taken) (take (held - block) (drop block hold) ++ piece)) ++ drop (held - block + f.taken - f.passed.skipped) hold
      → h ≡ hold_of fed hold
  unfolding rest_of
  kept e =
      let r = rest_of hold held block in
      let l = rest_length hold held block front fits in
      let e' : held - block + f.taken - f.passed.skipped ≡ length fed.held = omega (arith, sum) in
      e
      ∙ ap₂ (λ (x : List ℕ) (k : ℕ). x ++ drop k hold)
      (ap₂ (λ (i : ℕ) (x : List ℕ). drop i x) passed_is
      (ap (λ (k : ℕ). take (k + f.taken) (r ++ piece)) (sym l) ∙ take-append-add r piece f.taken ∙ ap (λ (k : ℕ). r ++ take k piece) taken_is)
      ∙ sym (fed_holds (judged c) piece room r))
      e'

-- ---- Finish

module _ (c : ℕ) (h : List ℕ) (held block : ℕ) (front : block ≤ held) (fits : held ≤ length h) (f : Scanned)
    (came : f ≡ scanned_of (stop (settle (judged_last c) (rest_of h held block)))) where
  abbrev last : Settled
  last = settle (judged_last c) (rest_of h held block)

  end_passed : f.passed.skipped ≡ length last.passed
  end_passed = ap (λ (x : Scanned). x.passed.skipped) came ∙ passed_of_skipped last.passed

  end_len : length (rest_of h held block) ≡ held - block
  end_len = rest_length h held block front fits

  pub end_few : f.passed.skipped ≤ held - block
  end_few = omega (arith, (settle_rest (judged_last c) (rest_of h held block)).few, end_len, end_passed)

  end_length : held - block - f.passed.skipped ≡ length last.rest
  end_length =
      omega (arith, ap length (settle_rest (judged_last c) (rest_of h held block)).is, length-drop (length last.passed) (rest_of h held block), end_len, end_passed)

  pub end_front : f.block ≤ held - block - f.passed.skipped
  end_front = omega (arith, settle_front (judged_last c) (last_fits c) (rest_of h held block), end_length, ap (λ (x : Scanned). x.block) came)

  pub end_told : ◌≡◌ {A = HoldNumbers} (record { taken = 0; passed = f.passed; held = held - block - f.passed.skipped; standing = f.block }) (numbers_of (stop last))
  end_told = ap₂ (λ (x : Scanned) (k : ℕ). record { taken = 0; passed = x.passed; held = k; standing = x.block }) came end_length

  pub end_kept : {h' : List ℕ} → h' ≡ paste h 0 (drop (block + f.passed.skipped) h) (held - block - f.passed.skipped) → h' ≡ hold_of (stop last) h
  unfolding rest_of
  end_kept e =
      e
      ∙ ap₂ (λ (x : List ℕ) (k : ℕ). x ++ drop k h)
      (sym
      ((settle_rest (judged_last c) (rest_of h held block)).is ∙ ap (λ (k : ℕ). drop k (rest_of h held block)) (sym end_passed)
      ∙ own h block (held - block) f.passed.skipped (omega arith) end_few))
      (zero-add (held - block - f.passed.skipped) ∙ end_length)

pub goes_on : LeftForNext
unfolding rest_of
goes_on f hold l =
    let b = size f.standing in
    ap (take (length f.held - size f.standing)) (drop-append-le (size f.standing) f.held (drop (length f.held) hold) l)
    ∙ take_at (drop (size f.standing) f.held) (drop (length f.held) hold) (length f.held - size f.standing) (length-drop (size f.standing) f.held)
