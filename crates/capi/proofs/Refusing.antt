-- A state that refusal 1 names: each call refuses it with 1, leaves it as it is and stores nothing.
-- Assumes nothing.
use mathlib.Core.Path.{◌≡◌}
use mathlib.Core.Bool.{false}
use mathlib.Core.List.{List, []}
use Rattle.std.proofs.Common.{Some}
use Prim.Native.Nat.{ℕ}
use Rattle.record.specs.Answer.{field_refused}
use Rattle.reader.specs.declared.Settings.{Settings}
use Rattle.reader.specs.declared.State.{State}
use Rattle.reader.specs.State.{sound}
use Rattle.reader.specs.Said.{refused}
use Rattle.reader.specs.Outcome.{outcome}
use Rattle.tables.specs.Calls.{open_refusal, open_of, stage_refusal, stage_of, withdraw_refusal, withdraw_of}
use Rattle.runs.specs.Refusals.{feed_refusal, finish_refusal, bytes_refusal}
use Rattle.runs.specs.Calls.{feed_of, finish_of}
use Rattle.draft.specs.Draft.{Draft}
use Rattle.writer.specs.Write.{refuses_write}
use Rattle.writes.specs.Calls.{write_of}
use Rattle.epochs.specs.Calls.{sub2_of, range_of, range2_of}
use Rattle.records.specs.Calls.{ask_refusal, body_of, sub_of, sub_bytes_refusal, stamp_of, tow_of, wnc_of}

module _ (t : State) (e : sound t ≡ false) where
  pub open_one : (x : Settings) (force wait : List ℕ) → open_of t x force wait ≡ outcome (refused 1) t force
  unfolding open_of open_refusal
  open_one x force wait = rw e

  pub stage_one : (wait table : List ℕ) → stage_of t wait table ≡ outcome (refused 1) t wait
  unfolding stage_of stage_refusal
  stage_one wait table = rw e

  pub withdraw-one : withdraw_of t ≡ outcome (refused 1) t []
  unfolding withdraw_of withdraw_refusal
  withdraw-one = rw e

  pub feed-one : (hold piece : List ℕ) → feed_of t hold piece ≡ outcome (refused 1) t hold
  unfolding feed_of feed_refusal
  feed-one hold piece = rw e

  pub finish-one : (hold : List ℕ) → finish_of t hold ≡ outcome (refused 1) t hold
  unfolding finish_of finish_refusal
  finish-one hold = rw e

  pub bytes_one : (hold : List ℕ) → bytes_refusal t hold ≡ Some 1
  unfolding bytes_refusal
  bytes_one hold = rw e

  ask-one : (force : List ℕ) → ask_refusal t force ≡ Some 1
  unfolding ask_refusal
  ask-one force = rw e

  pub body-one : (force block : List ℕ) (i : ℕ) → body_of t force block i ≡ field_refused 1
  unfolding body_of
  body-one force block i = rw (ask-one force)

  pub sub_one : (force block : List ℕ) (k j : ℕ) → sub_of t force block k j ≡ field_refused 1
  unfolding sub_of
  sub_one force block k j = rw (ask-one force)

  pub sub_bytes_one : (force block : List ℕ) (k : ℕ) → sub_bytes_refusal t force block k ≡ Some 1
  unfolding sub_bytes_refusal
  sub_bytes_one force block k = rw (ask-one force)

  pub sub2_one : (force block : List ℕ) (k m j : ℕ) → sub2_of t force block k m j ≡ field_refused 1
  unfolding sub2_of
  sub2_one force block k m j = rw (ask-one force)

  pub range_one : (force block : List ℕ) (k : ℕ) → range_of t force block k ≡ field_refused 1
  unfolding range_of
  range_one force block k = rw (ask-one force)

  pub range2_one : (force block : List ℕ) (k m : ℕ) → range2_of t force block k m ≡ field_refused 1
  unfolding range2_of
  range2_one force block k m = rw (ask-one force)

  pub tow_one : (block : List ℕ) → tow_of t block ≡ field_refused 1
  unfolding stamp_of
  tow_one block = rw e

  pub wnc-one : (block : List ℕ) → wnc_of t block ≡ field_refused 1
  unfolding stamp_of
  wnc-one block = rw e

  pub write-one : (force : List ℕ) (d : Draft) (buffer : List ℕ) → write_of t force d buffer ≡ refuses_write 1 buffer
  unfolding write_of
  write-one force d buffer = rw (ask-one force)
