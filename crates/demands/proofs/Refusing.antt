-- A refused call keeps the world and hands back nothing; reached states are sound.
-- Assumes nothing.
use Prim.Native.Nat.{ℕ}
use mathlib.Core.Path.{◌≡◌, refl, sym, ◌∙◌}
use mathlib.Core.List.{[]}
use Rattle.std.proofs.Common.{Option, None, Some}
use Rattle.runs.proofs.Emptying.{bytes_empty}
use Rattle.records.proofs.Asking.{sub_bytes_empty}
use Rattle.demands.specs.World.{World, Look, bytes, body, sub, sub_bytes, sub2, range, range2, tow, wnc, write, Call, open_run, feed, finish, table, look, told, part_of, Step, looked}
use Rattle.demands.specs.Demand1.{Demand1}
use Rattle.demands.proofs.Listed.{nothing_there}
use Rattle.demands.proofs.Steps.{How, isnt, is, how, done}
use Rattle.demands.proofs.Refusals.{finish_tells_none, table_tells_none, exactly}
use Rattle.demands.proofs.Penned.{unwritten, kept_behind}
use Rattle.demands.proofs.Never.{never_one}
use Rattle.demands.proofs.Reached.{good_sound, good_end, good_new}

-- ---- what is done where none is refused is no refusal, but for a look, which changes nothing

no_refusal : {X : Type 0} {o : Option ℕ} {n : ℕ} → o ≡ None → o ≡ Some n → X
no_refusal d e = nothing_there (sym d ∙ e)

done_keeps : (c : Call) (w : World) (n : ℕ) → (told (done c w).answer).refusal ≡ Some n → (done c w).world ≡ w
done_keeps (open_run x) w n e = nothing_there e
done_keeps (feed piece) w n e = nothing_there e
done_keeps finish w n e = no_refusal (finish_tells_none w) e
done_keeps (table t) w n e = no_refusal (table_tells_none t w) e
done_keeps (look l) w n e = refl

keeps_by : (c : Call) (w : World) (n : ℕ) {r : Step} → How c w r → (told r.answer).refusal ≡ Some n → r.world ≡ w
keeps_by c w n (isnt m e) f = refl
keeps_by c w n (is e) f = done_keeps c w n f

-- ---- a part is empty where its second call gives a number

look_empty : (l : Look) (w : World) (n : ℕ) → (told (looked l w)).refusal ≡ Some n → part_of (looked l w) ≡ []
look_empty bytes w n e = bytes_empty w.state w.hold n e
look_empty (body b i) w n e = refl
look_empty (sub b k j) w n e = refl
look_empty (sub_bytes b k) w n e = sub_bytes_empty w.state w.force b k n e
look_empty (sub2 b k m j) w n e = refl
look_empty (range b k) w n e = refl
look_empty (range2 b k m) w n e = refl
look_empty (tow b) w n e = refl
look_empty (wnc b) w n e = refl
look_empty (write d buffer) w n e = refl

done_empty : (c : Call) (w : World) (n : ℕ) → (told (done c w).answer).refusal ≡ Some n → part_of (done c w).answer ≡ []
done_empty (open_run x) w n e = refl
done_empty (feed piece) w n e = refl
done_empty finish w n e = no_refusal (finish_tells_none w) e
done_empty (table t) w n e = no_refusal (table_tells_none t w) e
done_empty (look l) w n e = look_empty l w n e

empty_by : (c : Call) (w : World) (n : ℕ) {r : Step} → How c w r → (told r.answer).refusal ≡ Some n → part_of r.answer ≡ []
empty_by c w n (isnt m e) f = refl
empty_by c w n (is e) f = done_empty c w n f

pub demand_1 : Demand1
demand_1 =
    record {
      refused = exactly;
      keeps = λ c w n e. keeps_by c w n (how c w) e;
      empty = λ c w n e. empty_by c w n (how c w) e;
      unwritten = λ d buffer w n e. unwritten d buffer w n e;
      kept_behind = λ d buffer after w n e f. kept_behind d buffer after w n e f;
      sound = λ w before n. good_sound _ (good_end before w (good_new w n));
      never = never_one;
    }
