-- `lister::offer` takes no more than the piece: the reader does not.
-- Assumes nothing.
use Rattle.std.specs.Result.{result_ok}
use Rattle.std.specs.Option.{IfSome}
use Rattle.std.proofs.Common.{ap, ℕ, ◌≤◌, Result, Ok, Err, arith}
use Rattle.refusal.specs.declared.Refusal.{Refusal}
use Rattle.reader.specs.Outcome.{Outcome}
use Rattle.runs.specs.Said.{said_fed}
use Rattle.runs.specs.declared.Fed.{Fed}
use Rattle.lister.proofs.Laws.{taken_of, taken_few}
use Rattle.lister.proofs.offer.Goals as goal

if_fed : (a : Result Fed Refusal) (n : ℕ) → taken_of (said_fed a) ≤ n → IfSome (result_ok a) (λ f. f.taken ≤ n)
if_fed (Ok f) n h = h
if_fed (Err r) n h = tt

pub returns : goal.returns
returns c =
    let a = c.args in
    let few = ap (λ (o : Outcome). taken_of o.said) c.feed-fed.ensures in
    rw c.ok.ensures.value (if_fed c.feed-fed.result.answer _ (omega (arith, few, taken_few a.state.now a.hold.now a.piece.now)))
