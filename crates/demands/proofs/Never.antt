-- With long enough buffers no call on a new reader gets refusal 1.
-- Assumes nothing.
use Prim.Native.Nat.{ℕ, ◌≤◌}
use native.Mathlib.Omega.{arith}
use mathlib.Core.Path.{◌≡◌, refl}
use mathlib.Core.Bool.{Bool, true, false, cond}
use mathlib.Core.List.{List, [], ◌∷◌}
use mathlib.Core.Logic.{◌⊎◌, ⊎_elim}
use Rattle.std.proofs.Common.{None, Some}
use lib.ListN.{length, take}
use lib.Seq.{length-take-le}
use lib.Dec.{ltb}
use Rattle.feed.specs.Hold.{over}
use Rattle.runs.specs.Calls.{feeding_of, finishing_of}
use Rattle.table.specs.Rows.{BlockRow, first_rows, second_rows}
use Rattle.draft.specs.Draft.{Draft}
use Rattle.reader.specs.declared.Settings.{Settings}
use Rattle.demands.specs.World.{World, TableCall, stage, withdraw, bytes, body, sub, sub_bytes, sub2, range, range2, tow, wnc, write, Call, open_run, feed, finish, table, look, told, Step, step, end}
use Rattle.demands.specs.Sequence.{New}
use Rattle.demands.specs.Refusals.{ShortHold, ShortStore, BadState, NoField, NoSubBlock, NoSecond, NoRange, NoRange2, Order, Given, record_order, stamp_order, write_order, order}
use Rattle.demands.specs.Demand1.{Long}
use Rattle.demands.proofs.Exact.{bad_state}
use Rattle.demands.proofs.Refusals.{exactly}
use Rattle.demands.proofs.Steps.{How, isnt, is, how, refusal, done, table_done}
use Rattle.demands.proofs.Reached.{Good, good_sound, good_step, good_new}
use Rattle.demands.proofs.Force.{length_over}
use Rattle.demands.proofs.Untouched.{same_by}
use Rattle.demands.proofs.Going.{hold_length}
use Rattle.demands.proofs.Live.{may_open, MayOpen}

-- ---- the buffers keep their lengths

force_by : (b : Bool) (t force : List ℕ) → length t ≤ length force → length (cond b (over t force) force) ≡ length force
force_by true t force l = length_over t force l
force_by false t force l = refl

open_force : (x : Settings) (w : World) → MayOpen x w → length (done (open_run x) w).world.force ≡ length w.force
open_force x w m =
    let f = m.long in
    let n = w.state.waiting in
    force_by (ltb 0 n) (take n w.wait) w.force
    (omega (arith, length-take-le n w.wait (omega (arith, f.facts.waiting, f.long_wait)), f.facts.waiting, f.long_force))

force_table : (t : TableCall) (w : World) → length (table_done t w).world.force ≡ length w.force
force_table (stage t) w = refl
force_table withdraw w = refl

force_done : (c : Call) (w : World) → refusal c w ≡ None → length (done c w).world.force ≡ length w.force
force_done (open_run x) w e = open_force x w (may_open x w e)
force_done (feed piece) w e = refl
force_done finish w e = refl
force_done (table t) w e = force_table t w
force_done (look k) w e = refl

force_same : (c : Call) (w : World) {r : Step} → How c w r → length r.world.force ≡ length w.force
force_same c w (isnt n e) = refl
force_same c w (is e) = force_done c w e

hold_table : (t : TableCall) (w : World) → length (table_done t w).world.hold ≡ length w.hold
hold_table (stage t) w = refl
hold_table withdraw w = refl

hold_done : (c : Call) (w : World) → 65536 ≤ length w.hold → (done c w).world.state.run.held ≤ 65532 → length (done c w).world.hold ≡ length w.hold
hold_done (open_run x) w l few = refl
hold_done (feed piece) w l few = hold_length (feeding_of w.state w.hold piece) w.hold (omega arith)
hold_done finish w l few = hold_length (finishing_of w.state w.hold) w.hold (omega arith)
hold_done (table t) w l few = hold_table t w
hold_done (look k) w l few = refl

hold_same : (c : Call) (w : World) → 65536 ≤ length w.hold → {r : Step} → How c w r → r.world.state.run.held ≤ 65532 → length r.world.hold ≡ length w.hold
hold_same c w l (isnt n e) few = refl
hold_same c w l (is e) few = hold_done c w l few

long_step : (c : Call) (w : World) → Good w → Long w → Long (step c w).world
long_step c w g l =
    record {
      hold = omega (arith, hold_same c w l.hold (how c w) (good_step c w g).sound.few, l.hold);
      force = omega (arith, force_same c w (how c w), l.force);
      wait = omega (arith, same_by c w (how c w), l.wait);
    }

-- ---- 1 is given by its own condition alone

-- no number of the order is 1, or its condition does not hold
abbrev NotOne : Order → Type 0
NotOne [] = Unit {0}
NotOne (d ∷ ds) = (d.number ≡ 1 → d.condition → ⊥) × NotOne ds

not_given : (o : Order) → NotOne o → Given o 1 → ⊥
not_given [] h g = g
not_given (d ∷ ds) h g = ⊎_elim (λ q. h.0 q.0 q.1) (λ q. not_given ds h.1 q.1) g

-- ---- and it does not hold

no_bad : (w : World) → Good w → BadState w.state → ⊥
no_bad w g b = (bad_state w.state).fine (good_sound w g) b

module _ (w : World) (g : Good w) (l : Long w) where
  with_hold : BadState w.state ⊎ ShortHold w.hold → ⊥
  with_hold p = ⊎_elim (no_bad w g) (λ s. omega (arith, l.hold, s)) p

  with_force : BadState w.state ⊎ ShortStore w.force → ⊥
  with_force p = ⊎_elim (no_bad w g) (λ s. omega (arith, l.force, s)) p

  with_wait : BadState w.state ⊎ ShortStore w.wait → ⊥
  with_wait p = ⊎_elim (no_bad w g) (λ s. omega (arith, l.wait, s)) p

  with_both : BadState w.state ⊎ (ShortStore w.force ⊎ ShortStore w.wait) → ⊥
  with_both p = ⊎_elim (no_bad w g) (λ s. ⊎_elim (λ f. omega (arith, l.force, f)) (λ v. omega (arith, l.wait, v)) s) p

  -- the record calls that read by a table
  not_record : (b : List ℕ) (nine : BlockRow → Type 0) → NotOne (record_order w b nine)
  not_record b nine = ((λ q p. with_force p), ((λ q p. omega arith), ((λ q p. omega arith), ((λ q p. omega arith), ((λ q p. omega arith), ((λ q p. omega arith), ((λ q p. omega arith), ((λ q p. omega arith), tt))))))))

  not_stamp : (b : List ℕ) → NotOne (stamp_order w b)
  not_stamp b = ((λ q p. no_bad w g p), ((λ q p. omega arith), ((λ q p. omega arith), tt)))

  not_write : (d : Draft) (buffer : List ℕ) → NotOne (write_order w d buffer)
  not_write d buffer = ((λ q p. with_force p), ((λ q p. omega arith), ((λ q p. omega arith), ((λ q p. omega arith), ((λ q p. omega arith), ((λ q p. omega arith), tt))))))

  not_one : (c : Call) → NotOne (order c w)
  not_one (open_run x) = ((λ q p. with_both p), ((λ q p. omega arith), ((λ q p. omega arith), ((λ q p. omega arith), ((λ q p. omega arith), tt)))))
  not_one (feed piece) = ((λ q p. with_hold p), ((λ q p. omega arith), ((λ q p. omega arith), tt)))
  not_one finish = ((λ q p. with_hold p), ((λ q p. omega arith), tt))
  not_one (table (stage t)) = ((λ q p. with_wait p), ((λ q p. omega arith), tt))
  not_one (table withdraw) = ((λ q p. no_bad w g p), tt)
  not_one (look bytes) = ((λ q p. with_hold p), tt)
  not_one (look (body b i)) = not_record b (λ r. NoField r.body i)
  not_one (look (sub b k j)) = not_record b (λ r. NoSubBlock b k r ⊎ NoField (first_rows r) j)
  not_one (look (sub_bytes b k)) = not_record b (NoSubBlock b k)
  not_one (look (sub2 b k m j)) = not_record b (λ r. NoSecond b k m r ⊎ NoField (second_rows r) j)
  not_one (look (range b k)) = not_record b (NoRange b k)
  not_one (look (range2 b k m)) = not_record b (NoRange2 b k m)
  not_one (look (tow b)) = not_stamp b
  not_one (look (wnc b)) = not_stamp b
  not_one (look (write d buffer)) = not_write d buffer

never_from : (cs : List Call) (c : Call) (w : World) → Good w → Long w → (told (step c (end cs w)).answer).refusal ≡ Some 1 → ⊥
unfolding end
never_from [] c w g l e = not_given (order c w) (not_one w g l c) ((exactly c w).gives 1 e)
never_from (k ∷ ks) c w g l e = never_from ks c (step k w).world (good_step k w g) (long_step k w g l) e

pub never_one : (w : World) (before : List Call) (c : Call) → New w → Long w → (told (step c (end before w)).answer).refusal ≡ Some 1 → ⊥
never_one w before c n l e = never_from before c w (good_new w n) l e
