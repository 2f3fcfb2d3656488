-- What an offer asks of the reader: a call takes no more than it is offered.
-- Assumes nothing.
use mathlib.Core.List.{List}
use Rattle.std.proofs.Common.{Option, None, Some}
use Prim.Native.Nat.{ℕ, ◌-◌, ◌≤◌}
use native.Mathlib.Omega.{arith}
use lib.ListN.{length}
use Rattle.frame.specs.Judge.{judged}
use Rattle.scan.specs.Feed.{feed_lit}
use Rattle.scan.proofs.Stable.{judging}
use Rattle.scan.proofs.Calls.{call}
use Rattle.feed.specs.Hold.{rest_of}
use Rattle.reader.specs.State.{limit, ceiling_of}
use Rattle.reader.specs.Said.{Said, refused, version, took, found, ended, waited}
use Rattle.runs.specs.Refusals.{feed_refusal}
use Rattle.reader.specs.Outcome.{unless}
use Rattle.runs.specs.Calls.{feeding_by, feeding_of, feed_of}
use Rattle.reader.specs.declared.State.{State}

-- how many bytes an answer says were taken
abbrev pub taken_of : Said → ℕ
taken_of (refused n) = 0
taken_of (version v) = 0
taken_of (took t r) = t
taken_of (found r) = 0
taken_of (ended c) = 0
taken_of (waited w) = 0

few_by : (o : Option ℕ) (s : State) (hold piece h : List ℕ) (c room : ℕ) → taken_of (unless o s hold (feeding_by (feed_lit c h piece room) s hold)).said ≤ length piece
few_by (Some n) s hold piece h c room = omega arith
few_by None s hold piece h c room = omega (arith, (call (judged c) (judging c).fits h piece room).taken)

pub taken_few : (s : State) (hold piece : List ℕ) → taken_of (feed_of s hold piece).said ≤ length piece
unfolding feed_of feeding_of
taken_few s hold piece = few_by (feed_refusal s hold piece) s hold piece (rest_of hold s.run.held s.run.standing) (ceiling_of s) (limit - s.run.counts.taken)
