-- A step by its refusal: it is refused and nothing is done, or no refusal is due and it is done.
-- Assumes nothing.
use Prim.Native.Nat.{ℕ}
use mathlib.Core.Path.{◌≡◌, refl}
use mathlib.Core.Bool.{true, false}
use mathlib.Core.List.{List}
use Rattle.std.proofs.Common.{Option, None, Some}
use Rattle.wire.proofs.Tests.{never}
use Rattle.reader.specs.Said.{refused}
use Rattle.tables.specs.Calls.{open_refusal, stage_refusal, withdraw_refusal, opening, open_of, staging, stage_of, withdrawing, withdraw_of}
use Rattle.runs.specs.Refusals.{feed_refusal, finish_refusal}
use Rattle.reader.specs.Outcome.{Outcome, unless}
use Rattle.reader.specs.declared.Settings.{Settings}
use Rattle.runs.specs.Calls.{feeding_by, feeding_of, feed_of, finishing_by, finishing_of, finish_of}
use Rattle.demands.specs.World.{World, TableCall, stage, withdraw, Call, open_run, feed, finish, table, look, said, Step, leaving, looked, step}

abbrev pub table_refusals : TableCall → World → Option ℕ
table_refusals (stage t) w = stage_refusal w.state w.wait t
table_refusals withdraw w = withdraw_refusal w.state

-- the refusal of a call that changes something
abbrev pub refusal : Call → World → Option ℕ
refusal (open_run x) w = open_refusal w.state x w.force w.wait
refusal (feed piece) w = feed_refusal w.state w.hold piece
refusal finish w = finish_refusal w.state w.hold
refusal (table t) w = table_refusals t w
refusal (look l) w = None

-- what a call leaves that may write one buffer, or none
abbrev pub left_force : World → Outcome → Step
left_force w o = leaving o w.hold o.lent w.wait

abbrev pub left_hold : World → Outcome → Step
left_hold w o = leaving o o.lent w.force w.wait

abbrev pub left_wait : World → Outcome → Step
left_wait w o = leaving o w.hold w.force o.lent

abbrev pub left_none : World → Outcome → Step
left_none w o = leaving o w.hold w.force w.wait

abbrev pub table_done : TableCall → World → Step
table_done (stage t) w = left_wait w (staging w.state w.wait t)
table_done withdraw w = left_none w (withdrawing w.state)

-- what it does where none is due
abbrev pub done : Call → World → Step
done (open_run x) w = left_force w (opening w.state x w.force w.wait)
done (feed piece) w = left_hold w (feeding_by (feeding_of w.state w.hold piece) w.state w.hold)
done finish w = left_hold w (finishing_by (finishing_of w.state w.hold) w.state w.hold)
done (table t) w = table_done t w
done (look l) w = record { answer = looked l w; world = w }

abbrev pub refusing : ℕ → World → Step
refusing n w = record { answer = said (refused n); world = w }

abbrev pub unless_refused : Option ℕ → Call → World → Step
unless_refused (Some n) c w = refusing n w
unless_refused None c w = done c w

open_by : (o : Option ℕ) (x : Settings) (w : World)
    → left_force w (unless o w.state w.force (opening w.state x w.force w.wait)) ≡ unless_refused o (open_run x) w
open_by None x w = refl
open_by (Some n) x w = refl

feed_by_lem : (o : Option ℕ) (piece : List ℕ) (w : World)
    → left_hold w (unless o w.state w.hold (feeding_by (feeding_of w.state w.hold piece) w.state w.hold)) ≡ unless_refused o (feed piece) w
feed_by_lem None piece w = refl
feed_by_lem (Some n) piece w = refl

finish_by : (o : Option ℕ) (w : World)
    → left_hold w (unless o w.state w.hold (finishing_by (finishing_of w.state w.hold) w.state w.hold)) ≡ unless_refused o finish w
finish_by None w = refl
finish_by (Some n) w = refl

stage_by : (o : Option ℕ) (t : List ℕ) (w : World) → left_wait w (unless o w.state w.wait (staging w.state w.wait t)) ≡ unless_refused o (table (stage t)) w
stage_by None t w = refl
stage_by (Some n) t w = refl

withdraw_by : (o : Option ℕ) (l : List ℕ) (w : World) → left_none w (unless o w.state l (withdrawing w.state)) ≡ unless_refused o (table withdraw) w
withdraw_by None l w = refl
withdraw_by (Some n) l w = refl

pub by_refusal : (c : Call) (w : World) → step c w ≡ unless_refused (refusal c w) c w
unfolding step open_of feed_of finish_of stage_of withdraw_of
by_refusal (open_run x) w = open_by (open_refusal w.state x w.force w.wait) x w
by_refusal (feed piece) w = feed_by_lem (feed_refusal w.state w.hold piece) piece w
by_refusal finish w = finish_by (finish_refusal w.state w.hold) w
by_refusal (table (stage t)) w = stage_by (stage_refusal w.state w.wait t) t w
by_refusal (table withdraw) w = withdraw_by (withdraw_refusal w.state) _ w
by_refusal (look l) w = refl

pub data How (c : Call) (w : World) : Step → Type 0 where
  isnt : (n : ℕ) → refusal c w ≡ Some n → How c w (refusing n w)
  is : refusal c w ≡ None → How c w (done c w)

how_by : (o : Option ℕ) (c : Call) (w : World) → refusal c w ≡ o → How c w (unless_refused o c w)
how_by (Some n) c w e = isnt n e
how_by None c w e = is e

pub how : (c : Call) (w : World) → How c w (step c w)
how c w = rw (by_refusal c w) (how_by (refusal c w) c w refl)

pub clash : {X : Type 0} → true ≡ false → X
clash e = never refl e
