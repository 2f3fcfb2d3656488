-- The refusal that a call tells is given exactly when: what is done where none is due tells none.
-- Assumes nothing.
use Prim.Native.Nat.{ℕ}
use mathlib.Core.Path.{◌≡◌, refl, ap, ◌∙◌}
use mathlib.Core.List.{List}
use Rattle.std.proofs.Common.{Option, None, Some}
use Rattle.record.specs.Calls.{tow_row, wnc_row}
use Rattle.runs.specs.Calls.{finishing_of, finishing_by, finish_said}
use Rattle.reader.specs.declared.Run.{Run}
use Rattle.demands.specs.World.{World, TableCall, stage, withdraw, bytes, body, sub, sub_bytes, sub2, range, range2, tow, wnc, write, Call, open_run, feed, finish, table, look, said, told, Step, step}
use Rattle.demands.specs.Refusals.{Exactly, order}
use Rattle.demands.proofs.Exact.{open_exact, feed_exact, finish_exact, bytes_exact, withdraw_exact, stage_exact}
use Rattle.demands.proofs.Asked.{same, body_exact, sub_exact, twin_exact, sub2_exact, range_exact, range2_exact, stamp_exact}
use Rattle.demands.proofs.Penned.{write_exact}
use Rattle.demands.proofs.Steps.{refusal, done, table_done, unless_refused, by_refusal}

finish_none : (o : Option ℕ) (r : Run) (v : List ℕ) → (told (said (finish_said o r v))).refusal ≡ None
finish_none None r v = refl
finish_none (Some n) r v = refl

-- Finish's, of the block that stands after it
pub finish_tells_none : (w : World) → (told (done finish w).answer).refusal ≡ None
finish_tells_none w =
    let f = finishing_of w.state w.hold in
    finish_none f.standing (finishing_by f w.state w.hold).state.run f.held

pub table_tells_none : (t : TableCall) (w : World) → (told (table_done t w).answer).refusal ≡ None
table_tells_none (stage t) w = refl
table_tells_none withdraw w = refl

number_by : (o : Option ℕ) (c : Call) (w : World) → (told (done c w).answer).refusal ≡ None → (told (unless_refused o c w).answer).refusal ≡ o
number_by None c w d = d
number_by (Some n) c w d = refl

-- a call that changes something tells its refusal
exactly_by : (c : Call) (w : World) → (told (done c w).answer).refusal ≡ None → Exactly (refusal c w) (order c w)
    → Exactly (told (step c w).answer).refusal (order c w)
exactly_by c w d x = same (ap (λ (r : Step). (told r.answer).refusal) (by_refusal c w) ∙ number_by (refusal c w) c w d) x

pub exactly : (c : Call) (w : World) → Exactly (told (step c w).answer).refusal (order c w)
unfolding step
exactly (open_run x) w = exactly_by (open_run x) w refl (open_exact x w)
exactly (feed piece) w = exactly_by (feed piece) w refl (feed_exact piece w)
exactly finish w = exactly_by finish w (finish_tells_none w) (finish_exact w)
exactly (table (stage t)) w = exactly_by (table (stage t)) w refl (stage_exact t w)
exactly (table withdraw) w = exactly_by (table withdraw) w refl (withdraw_exact w)
exactly (look bytes) w = bytes_exact w
exactly (look (body b i)) w = body_exact w b i
exactly (look (sub b k j)) w = sub_exact w b k j
exactly (look (sub_bytes b k)) w = twin_exact w b k
exactly (look (sub2 b k m j)) w = sub2_exact w b k m j
exactly (look (range b k)) w = range_exact w b k
exactly (look (range2 b k m)) w = range2_exact w b k m
exactly (look (tow b)) w = stamp_exact w b tow_row
exactly (look (wnc b)) w = stamp_exact w b wnc_row
exactly (look (write d buffer)) w = write_exact w d buffer
