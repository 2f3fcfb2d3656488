-- Each test of the definitions says whether its condition holds; so a row of tests gives the first condition that does.
-- Assumes nothing.
use Prim.Native.Nat.{ℕ, ◌%◌, ◌≤◌, ◌<◌}
use native.Mathlib.Omega.{arith}
use mathlib.Core.Path.{◌≡◌, refl, ap}
use mathlib.Core.Bool.{Bool, true, false, not, ◌&&◌, ◌||◌}
use mathlib.Core.List.{List, [], ◌∷◌}
use mathlib.Core.Logic.{◌⊎◌, inl, inr, ⊎_elim}
use Rattle.std.proofs.Common.{Option, None, Some}
use lib.ListN.{length}
use lib.Dec.{leb, ltb, eqb}
use Rattle.frame.specs.Frame.{greatest_ceiling, ceiling_ok}
use borrow.Author.Tests.{leb-true, leb-false, ltb-true, ltb-false, eqb-true, eqb-false}
use Rattle.frame.specs.Judge.{judged}
use Rattle.scan.specs.Settle.{settle}
use Rattle.feed.specs.Hold.{rest_of}
use Rattle.wire.proofs.Tests.{both_left, both_right, never, neither_left, neither_right}
use Rattle.table.specs.Rules.{table_ok}
use Rattle.reader.specs.State.{limit, ceiling_of, sound}
use Rattle.reader.specs.Refusals.{need, is_closed, long_hold, long_store, table_refusal}
use Rattle.runs.specs.Refusals.{is_feeding, is_some, feed_refusal, finish_refusal, bytes_refusal}
use Rattle.tables.specs.Calls.{next_table, open_refusal, stage_refusal, withdraw_refusal}
use Rattle.reader.specs.declared.Phase.{Phase}
use Rattle.reader.specs.declared.Phase.TheVariants.{Closed, Feeding, Finishing}
use Rattle.reader.specs.declared.Settings.{Settings}
use Rattle.reader.specs.declared.State.{State}
use Rattle.demands.specs.Refusals.{ShortHold, ShortStore, NoCeiling, BadState, Full, Breaks, ◌when◌, Order, Given, Exactly, order}
use Rattle.demands.specs.World.{World, stage, withdraw, bytes, open_run, feed, finish, table, look}

-- ---- a row of tests

-- a test that fails exactly where its condition holds
pub record Tells (b : Bool) (P : Type 0) : Type 0 where
  pub fine : b ≡ true → P → ⊥
  pub holds : b ≡ false → P

pub exactly_none : Exactly None []
exactly_none = record { gives = λ n e. let z : ◌≡◌ {A = ℕ} 0 1 = cc in omega arith; given = λ n g. absurd g }

gives_by : (b : Bool) (m : ℕ) {P : Type 0} (o : Option ℕ) {r : Order} → Tells b P → Exactly o r → (n : ℕ) → need b m o ≡ Some n → Given (m when P ∷ r) n
gives_by true m o t x n e = inr (t.fine refl, x.gives n e)
gives_by false m o t x n e = let q : m ≡ n = cc in inl (q, t.holds refl)

given_by : (b : Bool) (m : ℕ) {P : Type 0} (o : Option ℕ) {r : Order} → Tells b P → Exactly o r → (n : ℕ) → Given (m when P ∷ r) n → need b m o ≡ Some n
given_by true m o t x n g = ⊎_elim (λ q. absurd (t.fine refl q.1)) (λ q. x.given n q.1) g
given_by false m o t x n g = ⊎_elim (λ q. ap Some q.0) (λ q. absurd (q.0 (t.holds refl))) g

followed : {b : Bool} (m : ℕ) {P : Type 0} {o : Option ℕ} {r : Order} → Tells b P → Exactly o r → Exactly (need b m o) (m when P ∷ r)
followed {b} m {P} {o} t x = record { gives = gives_by b m o t x; given = given_by b m o t x }

-- ---- tests put together

-- a test tells a condition that is another's in other words
pub retell : {c : Bool} {P Q : Type 0} → (P → Q) → (Q → P) → Tells c P → Tells c Q
retell to back u = record { fine = λ e q. u.fine e (back q); holds = λ e. to (u.holds e) }

both_holds : (a b : Bool) {P Q : Type 0} → Tells a P → Tells b Q → (a && b) ≡ false → P ⊎ Q
both_holds true b t u e = inr (u.holds e)
both_holds false b t u e = inl (t.holds refl)

pub both : {a b : Bool} {P Q : Type 0} → Tells a P → Tells b Q → Tells (a && b) (P ⊎ Q)
both {a} {b} t u =
    record {
      fine = λ e g. ⊎_elim (λ p. t.fine (both_left a b e) p) (λ q. u.fine (both_right a b e) q) g;
      holds = both_holds a b t u;
    }

to_right : {P Q R : Type 0} → (P ⊎ Q) ⊎ R → P ⊎ (Q ⊎ R)
to_right (inl (inl p)) = inl p
to_right (inl (inr q)) = inr (inl q)
to_right (inr r) = inr (inr r)

to_left : {P Q R : Type 0} → P ⊎ (Q ⊎ R) → (P ⊎ Q) ⊎ R
to_left (inl p) = inl (inl p)
to_left (inr (inl q)) = inl (inr q)
to_left (inr (inr r)) = inr r

-- the tests stand in a row from the left, the conditions from the right
pub regroup : {c : Bool} {P Q R : Type 0} → Tells c ((P ⊎ Q) ⊎ R) → Tells c (P ⊎ (Q ⊎ R))
regroup u = retell to_right to_left u

pub within : (m n : ℕ) → Tells (leb m n) (n < m)
within m n = record { fine = λ e l. let g = leb-true m n e in omega arith; holds = λ e. leb-false m n e }

-- ---- the conditions

pub ceiling_tells : (c : ℕ) → Tells (ceiling_ok c) (NoCeiling c)
unfolding ceiling_ok
ceiling_tells c =
    regroup
    (both (both (record { fine = λ e f. f (eqb-true (c % 4) 0 e); holds = λ e. eqb-false (c % 4) 0 e }) (within 16 c)) (within c greatest_ceiling))

pub bad_state : (s : State) → Tells (sound s) (BadState s)
unfolding sound
bad_state s =
    regroup
    (regroup
    (regroup
    (regroup
    (regroup
    (regroup
    (regroup
    (both
    (both
    (both
    (both
    (both
    (both
    (both (both (within s.run.held 65532) (within s.run.held s.run.counts.taken)) (within s.run.standing s.run.held))
    (within s.in_force 8192))
    (within s.waiting 8192))
    (within s.run.counts.taken limit))
    (within s.run.counts.blocks s.run.counts.taken))
    (within s.run.counts.skipped s.run.counts.taken))
    (ceiling_tells (ceiling_of s)))))))))

closed_tells : (p : Phase) → Tells (is_closed p) (p ≡ Closed → ⊥)
closed_tells Closed = record { fine = λ e f. f refl; holds = λ e. never refl e }
closed_tells Feeding = record { fine = λ e f. never e refl; holds = λ e q. let z : ◌≡◌ {A = ℕ} 0 1 = cc in omega arith }
closed_tells Finishing = record { fine = λ e f. never e refl; holds = λ e q. let z : ◌≡◌ {A = ℕ} 0 1 = cc in omega arith }

feeding_tells : (p : Phase) → Tells (is_feeding p) (p ≡ Feeding → ⊥)
feeding_tells Closed = record { fine = λ e f. never e refl; holds = λ e q. let z : ◌≡◌ {A = ℕ} 0 1 = cc in omega arith }
feeding_tells Feeding = record { fine = λ e f. f refl; holds = λ e. never refl e }
feeding_tells Finishing = record { fine = λ e f. never e refl; holds = λ e q. let z : ◌≡◌ {A = ℕ} 0 1 = cc in omega arith }

open_tells : (p : Phase) → Tells (not (is_closed p)) (p ≡ Closed)
open_tells Closed = record { fine = λ e q. never e refl; holds = λ e. refl }
open_tells Feeding = record { fine = λ e q. let z : ◌≡◌ {A = ℕ} 0 1 = cc in omega arith; holds = λ e. never refl e }
open_tells Finishing = record { fine = λ e q. let z : ◌≡◌ {A = ℕ} 0 1 = cc in omega arith; holds = λ e. never refl e }

pub table_tells : (t : List ℕ) → Tells (table_ok t) (Breaks t)
table_tells t = record { fine = λ e f. never e f; holds = λ e. e }

pub some_tells : (n : ℕ) → Tells (ltb 0 n) (n ≡ 0)
some_tells n = record { fine = λ e q. let l = ltb-true 0 n e in omega arith; holds = λ e. let l = ltb-false 0 n e in omega arith }

-- a test that holds where either does, fails where both fail
orelse_fine : (a b : Bool) {P Q : Type 0} → Tells a P → Tells b Q → (a || b) ≡ true → P × Q → ⊥
orelse_fine true b t u e g = t.fine refl g.0
orelse_fine false b t u e g = u.fine e g.1

pub orelse : {a b : Bool} {P Q : Type 0} → Tells a P → Tells b Q → Tells (a || b) (P × Q)
orelse {a} {b} t u =
    record { fine = orelse_fine a b t u; holds = λ e. (t.holds (neither_left a b e), u.holds (neither_right a b e)) }

full_tells : (n : ℕ) → Tells (ltb n limit) (4294967295 ≤ n)
full_tells n = record { fine = λ e q. let l = ltb-true n limit e in omega arith; holds = λ e. ltb-false n limit e }

pub empty_tells : (n : ℕ) → Tells (eqb n 0) (0 < n)
empty_tells n =
    record {
      fine = λ e q. let l = eqb-true n 0 e in omega arith;
      holds = λ e. let l = eqb-false n 0 e in omega (arith, l);
    }

gives_tells : (o : Option ℕ) → Tells (is_some o) (o ≡ None)
gives_tells None = record { fine = λ e q. never e refl; holds = λ e. refl }
gives_tells (Some n) = record { fine = λ e q. let z : ◌≡◌ {A = ℕ} 0 1 = cc in omega arith; holds = λ e. never refl e }

-- ---- the calls

hold_tells : (s : State) (hold : List ℕ) → Tells (sound s && long_hold hold) (BadState s ⊎ ShortHold hold)
hold_tells s hold = both (bad_state s) (within 65536 (length hold))

pub store_tells : (s : State) (store : List ℕ) → Tells (sound s && long_store store) (BadState s ⊎ ShortStore store)
store_tells s store = both (bad_state s) (within 8192 (length store))

full : (s : State) (hold piece : List ℕ)
    → Tells (ltb s.run.counts.taken limit || (eqb (length piece) 0 || is_some (settle (judged (ceiling_of s)) (rest_of hold s.run.held s.run.standing)).standing)) (Full s hold piece)
full s hold piece =
    let u = orelse (full_tells s.run.counts.taken) (orelse (empty_tells (length piece)) (gives_tells (settle (judged (ceiling_of s)) (rest_of hold s.run.held s.run.standing)).standing)) in
    record {
      fine = λ e f. u.fine e (f.all, (f.some_byte, f.no_block));
      holds = λ e. let h = u.holds e in record { all = h.0; no_block = h.1.1; some_byte = h.1.0 };
    }

broken : (t : List ℕ) → Exactly (table_refusal t) (4 when Breaks t ∷ [])
broken t = followed 4 (table_tells t) exactly_none

pub open_exact : (x : Settings) (w : World) → Exactly (open_refusal w.state x w.force w.wait) (order (open_run x) w)
unfolding open_refusal
open_exact x w =
    let s = w.state in
    followed 1 (regroup (both (store_tells s w.force) (within 8192 (length w.wait))))
    (followed 2 (closed_tells s.run.phase)
    (followed 13 (ceiling_tells x.ceiling)
    (followed 5 (orelse (some_tells s.waiting) (some_tells s.in_force)) (broken (next_table s w.force w.wait)))))

pub feed_exact : (piece : List ℕ) (w : World) → Exactly (feed_refusal w.state w.hold piece) (order (feed piece) w)
unfolding feed_refusal
feed_exact piece w =
    followed 1 (hold_tells w.state w.hold)
    (followed 2 (feeding_tells w.state.run.phase) (followed 3 (full w.state w.hold piece) exactly_none))

pub finish_exact : (w : World) → Exactly (finish_refusal w.state w.hold) (order finish w)
unfolding finish_refusal
finish_exact w = followed 1 (hold_tells w.state w.hold) (followed 2 (open_tells w.state.run.phase) exactly_none)

pub bytes_exact : (w : World) → Exactly (bytes_refusal w.state w.hold) (order (look bytes) w)
unfolding bytes_refusal
bytes_exact w = followed 1 (hold_tells w.state w.hold) exactly_none

pub withdraw_exact : (w : World) → Exactly (withdraw_refusal w.state) (order (table withdraw) w)
unfolding withdraw_refusal
withdraw_exact w = followed 1 (bad_state w.state) exactly_none

pub stage_exact : (t : List ℕ) (w : World) → Exactly (stage_refusal w.state w.wait t) (order (table (stage t)) w)
unfolding stage_refusal
stage_exact t w = followed 1 (store_tells w.state w.wait) (broken t)
