-- An exported call on the C form of a world does what the reader's call does on the world; so do calls one after the other.
-- Assumes nothing.
use Prim.Native.Nat.{ℕ, zero, suc, ◌<◌}
use native.Mathlib.Omega.{arith}
use mathlib.Core.Path.{◌≡◌, refl, sym, ap, ap₂, ◌∙◌}
use mathlib.Core.Bool.{true, false}
use mathlib.Core.List.{List, [], ◌∷◌}
use mathlib.Core.Logic.{inl, inr}
use Rattle.std.proofs.Common.{Option, None, Some, unwrap_or}
use lib.ListN.{length, take, drop}
use borrow.Author.Tests.{ne_eqb}
use Rattle.block.specs.Block.{Seen, refused_by, row, seen_sub, sub_span}
use Rattle.table.specs.Decode.{decode}
use Rattle.record.specs.Calls.{sub_slice, number_by, part_by, place_by, sub_block, sub_place, sub_block_refusal}
use Rattle.reader.specs.declared.State.{State}
use Rattle.runs.specs.Refusals.{bytes_refusal}
use Rattle.runs.specs.Calls.{feed_of, finish_of, bytes_of}
use Rattle.epochs.specs.Calls.{sub2_of, range_of, range2_of}
use Rattle.records.specs.Calls.{table_in_force, ask_refusal, first_of, place_unless, sub_bytes_of, sub_place_of, sub_bytes_refusal}
use Rattle.reader.specs.Outcome.{Outcome, part_unless}
use Rattle.reader.specs.declared.Settings.{Settings}
use Rattle.tables.specs.Calls.{open_of, stage_of, withdraw_of}
use Rattle.records.specs.Calls.{body_of, sub_of, tow_of, wnc_of}
use Rattle.draft.specs.Draft.{Draft}
use Rattle.writer.specs.Write.{WriteSaid, wrote, write_refused, WriteOutcome, write_outcome}
use Rattle.writes.specs.Calls.{write_of}
use Rattle.record.specs.Answer.{FieldSaid}
use Rattle.cform.specs.declared.CState.{CState}
use Rattle.cform.specs.State.{settings_c, state_of, state_c}
use Rattle.cform.specs.Answer.{reply_c, part_c}
use Rattle.cform.specs.Draft.{written_c}
use Rattle.cform.specs.Theorems.{answer_back, field_back, written_back}
use Rattle.cform.proofs.Phases.{closed_of, feeding-of, finishing-of, none_over}
use Rattle.cform.proofs.Back.{nothing_lost}
use Rattle.capi.specs.Calls.{Left, Handing, goes_on, open_c, feed_c, finish_c, stage_c, withdraw_c, tells_field, body_c, sub_c, sub2_c, range_c, range2_c, tow_c, wnc_c, hands, cut, bytes_c, sub_bytes_c, tells_written, write_c}
use Rattle.demands.specs.World.{World, stage, withdraw, Look, bytes, body, sub, sub_bytes, sub2, range, range2, tow, wnc, write, Call, open_run, feed, finish, table, look, Reply, said, part, value, penned, write_refusal, told, part_of, looked, step, end, Line, ◌⇒◌, trace}
use Rattle.demands.specs.Refusals.{Order, Given, order}
use Rattle.demands.proofs.Listed.{nothing_there}
use Rattle.demands.proofs.Refusing.{demand_1}
use Rattle.ccalls.specs.ThroughC.{CWorld, world_c, looked_c, step_c, refusal_back, reply_back, world_back, step_by_c, end_c, trace_c, ThroughC}
use Rattle.ccalls.proofs.Answers.{open_back, feed_back, end_back, stage_back, withdraw_back}

-- what the state of C's stands for
back : (t : State) → state_of (state_c t) ≡ Some t
back = nothing_lost.state

-- ---- a refusal's number is over 0

over : (n : ℕ) → 0 < n → refusal_back n ≡ Some n
over n h = rw (ne_eqb n 0 (λ e. omega arith))

abbrev AllOver : Order → Type 0
AllOver [] = Unit {0}
AllOver (d ∷ ds) = (0 < d.number) × AllOver ds

given_over : (o : Order) (n : ℕ) → AllOver o → Given o n → 0 < n
given_over [] n a g = absurd g
given_over (d ∷ ds) n a (inl g) = omega (arith, a.0, g.0)
given_over (d ∷ ds) n a (inr g) = given_over ds n a.1 g.1

part_back_lem : (x : Option ℕ) (o l : ℕ) → ((n : ℕ) → x ≡ Some n → 0 < n) → refusal_back (part_c x o l).refusal ≡ x
part_back_lem None o l h = refl
part_back_lem (Some n) o l h = over n (h n refl)

bytes_over : (w : World) (n : ℕ) → bytes_refusal w.state w.hold ≡ Some n → 0 < n
unfolding step
bytes_over w n e = given_over (order (look bytes) w) n (omega arith, tt) ((demand_1.refused (look bytes) w).gives n e)

sub_over : (w : World) (b : List ℕ) (k n : ℕ) → sub_bytes_refusal w.state w.force b k ≡ Some n → 0 < n
unfolding step
sub_over w b k n e =
    given_over (order (look (sub_bytes b k)) w) n
    (omega arith, (omega arith, (omega arith, (omega arith, (omega arith, (omega arith, (omega arith, (omega arith, tt))))))))
    ((demand_1.refused (look (sub_bytes b k)) w).gives n e)

write_back : (a : WriteSaid) → ((n : ℕ) → a ≡ write_refused n → 0 < n) → written_back (written_c a) ≡ a
write_back (wrote n) h = refl
write_back (write_refused n) h = rw (ne_eqb n 0 (λ e. let k = h n refl in omega arith))

write_over : (w : World) (d : Draft) (buffer : List ℕ) (n : ℕ) → (write_of w.state w.force d buffer).said ≡ write_refused n → 0 < n
unfolding step
write_over w d buffer n e =
    given_over (order (look (write d buffer)) w) n
    (omega arith, (omega arith, (omega arith, (omega arith, (omega arith, (omega arith, tt))))))
    ((demand_1.refused (look (write d buffer)) w).gives n (ap (λ (a : WriteSaid). write_refusal a) e))

-- ---- one call

-- the call is made with the state that C's stands for
module _ (call : State → Outcome) (s : State) (lent : List ℕ) where
  goes : goes_on call (state_c s) lent (state_of (state_c s)) ≡ record { reply = reply_c (call s).said (state_c (call s).state); lent = (call s).lent }
  goes = ap (goes_on call (state_c s) lent) (back s)

tells_it : (call : State → FieldSaid) (s : State) → field_back (tells_field call (state_of (state_c s))) ≡ call s
tells_it call s = ap (λ (o : Option State). field_back (tells_field call o)) (back s) ∙ nothing_lost.fields (call s)

hands_it : (refusal : State → Option ℕ) (offset : State → ℕ) (cut : State → List ℕ) (s : State)
    → hands refusal offset cut (state_of (state_c s)) ≡ record { part = part_c (refusal s) (offset s) (length (cut s)); bytes = cut s }
hands_it refusal offset cut s = ap (hands refusal offset cut) (back s)

module _ (w : World) where
  opens : (x : Settings) → open_c (state_c w.state) (settings_c x) w.force w.wait
      ≡ record { reply = reply_c (open_of w.state x w.force w.wait).said (state_c (open_of w.state x w.force w.wait).state); lent = (open_of w.state x w.force w.wait).lent }
  unfolding open_c
  opens x = goes (λ t. open_of t x w.force w.wait) w.state w.force

  feeds : (piece : List ℕ) → feed_c (state_c w.state) w.hold piece ≡ record { reply = reply_c (feed_of w.state w.hold piece).said (state_c (feed_of w.state w.hold piece).state); lent = (feed_of w.state w.hold piece).lent }
  unfolding feed_c
  feeds piece = goes (λ t. feed_of t w.hold piece) w.state w.hold

  finishes : finish_c (state_c w.state) w.hold ≡ record { reply = reply_c (finish_of w.state w.hold).said (state_c (finish_of w.state w.hold).state); lent = (finish_of w.state w.hold).lent }
  unfolding finish_c
  finishes = goes (λ t. finish_of t w.hold) w.state w.hold

  stages : (t : List ℕ) → stage_c (state_c w.state) w.wait t ≡ record { reply = reply_c (stage_of w.state w.wait t).said (state_c (stage_of w.state w.wait t).state); lent = (stage_of w.state w.wait t).lent }
  unfolding stage_c
  stages t = goes (λ s. stage_of s w.wait t) w.state w.wait

  withdraws : withdraw_c (state_c w.state) ≡ record { reply = reply_c (withdraw_of w.state).said (state_c (withdraw_of w.state).state); lent = (withdraw_of w.state).lent }
  unfolding withdraw_c
  withdraws = goes withdraw_of w.state []

-- a list cut at its own length
take_again : (n : ℕ) (v : List ℕ) → take (length (take n v)) v ≡ take n v
take_again zero v = refl
take_again (suc n) [] = refl
take_again (suc n) (x ∷ xs) = ap (λ (ys : List ℕ). x ∷ ys) (take_again n xs)

-- what C cuts out of the buffer is what the reader hands back
module _ (at n : ℕ) (v : List ℕ) where
  cut_unless : (o : Option ℕ) → cut (part_c o at (length (part_unless o (take n (drop at v))))) v ≡ part_unless o (take n (drop at v))
  cut_unless None = take_again n (drop at v)
  cut_unless (Some m) = refl

bytes_cut : (s : State) (hold : List ℕ) → cut (part_c (bytes_refusal s hold) 0 (length (bytes_of s hold))) hold ≡ bytes_of s hold
unfolding bytes_of
bytes_cut s hold = cut_unless 0 s.run.standing hold (bytes_refusal s hold)

sub_cut_by : (o : Option ℕ) (x : Seen) (b : List ℕ) (k : ℕ)
    → cut (part_c (first_of o (number_by x)) (place_unless o (place_by b k x)).at (length (part_unless o (part_by b k x)))) b ≡ part_unless o (part_by b k x)
unfolding sub_slice
sub_cut_by (Some n) x b k = refl
sub_cut_by None (refused_by n) b k = refl
sub_cut_by None (row r) b k = take_again (sub_span r b k).size (drop (sub_span r b k).at b)

sub_cut : (s : State) (force b : List ℕ) (k : ℕ)
    → cut (part_c (sub_bytes_refusal s force b k) (sub_place_of s force b k).at (length (sub_bytes_of s force b k))) b ≡ sub_bytes_of s force b k
unfolding sub_bytes_refusal sub_block_refusal sub_place_of sub_place sub_bytes_of sub_block
sub_cut s force b k = sub_cut_by (ask_refusal s force) (seen_sub (decode (table_in_force s force)) b k) b k

makes_it : (call : State → WriteOutcome) (buffer : List ℕ) (s : State) → ((n : ℕ) → (call s).said ≡ write_refused n → 0 < n)
    → let m = tells_written call buffer (state_of (state_c s)) in write_outcome (written_back m.written) m.buffer ≡ call s
makes_it call buffer s h =
    ap (λ (o : Option State). let m = tells_written call buffer o in write_outcome (written_back m.written) m.buffer) (back s)
    ∙ ap (λ (a : WriteSaid). write_outcome a (call s).buffer) (write_back (call s).said h)

looks : (l : Look) (w : World) → reply_back (look l) (world_c w) (looked_c l (world_c w)) ≡ looked l w
unfolding bytes_c body_c sub_c sub_bytes_c sub2_c range_c range2_c tow_c wnc_c write_c
looks bytes w =
    ap (λ (h : Handing). part (refusal_back h.part.refusal) (cut h.part w.hold)) (hands_it (λ t. bytes_refusal t w.hold) (λ t. 0) (λ t. bytes_of t w.hold) w.state)
    ∙ ap₂ part (part_back_lem (bytes_refusal w.state w.hold) _ _ (bytes_over w)) (bytes_cut w.state w.hold)
looks (body b i) w = ap value (tells_it (λ t. body_of t w.force b i) w.state)
looks (sub b k j) w = ap value (tells_it (λ t. sub_of t w.force b k j) w.state)
looks (sub_bytes b k) w =
    ap (λ (h : Handing). part (refusal_back h.part.refusal) (cut h.part b)) (hands_it (λ t. sub_bytes_refusal t w.force b k) (λ t. (sub_place_of t w.force b k).at) (λ t. sub_bytes_of t w.force b k) w.state)
    ∙ ap₂ part (part_back_lem (sub_bytes_refusal w.state w.force b k) _ _ (sub_over w b k)) (sub_cut w.state w.force b k)
looks (sub2 b k m j) w = ap value (tells_it (λ t. sub2_of t w.force b k m j) w.state)
looks (range b k) w = ap value (tells_it (λ t. range_of t w.force b k) w.state)
looks (range2 b k m) w = ap value (tells_it (λ t. range2_of t w.force b k m) w.state)
looks (tow b) w = ap value (tells_it (λ t. tow_of t b) w.state)
looks (wnc b) w = ap value (tells_it (λ t. wnc_of t b) w.state)
looks (write d buffer) w = ap penned (makes_it (λ t. write_of t w.force d buffer) buffer w.state (write_over w d buffer))

means : (c : Call) (w : World) → reply_back c (world_c w) (step_c c (world_c w)).answer ≡ (step c w).answer
unfolding step_c step
means (open_run x) w = ap said (ap (λ (l : Left). answer_back false l.reply.answer) (opens w x) ∙ open_back w.state x w.force w.wait)
means (feed piece) w = ap said (ap (λ (l : Left). answer_back false l.reply.answer) (feeds w piece) ∙ feed_back w.state w.hold piece)
means finish w = ap said (ap (λ (l : Left). answer_back true l.reply.answer) (finishes w) ∙ end_back w.state w.hold)
means (table (stage t)) w = ap said (ap (λ (l : Left). answer_back false l.reply.answer) (stages w t) ∙ stage_back w.state w.wait t)
means (table withdraw) w = ap said (ap (λ (l : Left). answer_back false l.reply.answer) (withdraws w) ∙ withdraw_back w.state)
means (look l) w = looks l w

leaves : (c : Call) (w : World) → (step_c c (world_c w)).world ≡ world_c (step c w).world
unfolding step_c step
leaves (open_run x) w = ap (λ (l : Left). record { state = l.reply.state; hold = w.hold; force = l.lent; wait = w.wait }) (opens w x)
leaves (feed piece) w = ap (λ (l : Left). record { state = l.reply.state; hold = l.lent; force = w.force; wait = w.wait }) (feeds w piece)
leaves finish w = ap (λ (l : Left). record { state = l.reply.state; hold = l.lent; force = w.force; wait = w.wait }) (finishes w)
leaves (table (stage t)) w = ap (λ (l : Left). record { state = l.reply.state; hold = w.hold; force = w.force; wait = l.lent }) (stages w t)
leaves (table withdraw) w = ap (λ (l : Left). record { state = l.reply.state; hold = w.hold; force = w.force; wait = w.wait }) (withdraws w)
leaves (look l) w = refl

-- ---- calls one after the other

ends : (cs : List Call) (w : World) → end_c cs (world_c w) ≡ world_c (end cs w)
unfolding end_c end
ends [] w = refl
ends (c ∷ cs) w = ap (end_c cs) (leaves c w) ∙ ends cs (step c w).world

answers : (cs : List Call) (w : World) → trace_c cs (world_c w) ≡ trace cs w
unfolding trace_c trace
answers [] w = refl
answers (c ∷ cs) w =
    ap₂ (λ (a : Reply) (ls : List Line). c ⇒ a ∷ ls) (means c w) (ap (trace_c cs) (leaves c w) ∙ answers cs (step c w).world)

-- ---- as one equation

back_again : (before : State) (w : World) → world_back before (world_c w) ≡ w
back_again before w = ap (λ (o : Option State). record { state = unwrap_or o before; hold = w.hold; force = w.force; wait = w.wait }) (back w.state)

same_step : (c : Call) (w : World) → step_by_c c w ≡ step c w
unfolding step_by_c
same_step c w =
    ap₂ (λ (a : Reply) (x : World). record { answer = a; world = x }) (means c w) (ap (world_back w.state) (leaves c w) ∙ back_again w.state (step c w).world)

same : step_by_c ≡ step
same i c w = same_step c w i

-- ---- a state that is made up

unknown_look : (l : Look) (w : CWorld) → state_of w.state ≡ None → (told (reply_back (look l) w (looked_c l w))).refusal ≡ Some 1
unfolding bytes_c body_c sub_c sub_bytes_c sub2_c range_c range2_c tow_c wnc_c write_c
unknown_look bytes w e = rw e
unknown_look (body b i) w e = rw e
unknown_look (sub b k j) w e = rw e
unknown_look (sub_bytes b k) w e = rw e
unknown_look (sub2 b k m j) w e = rw e
unknown_look (range b k) w e = rw e
unknown_look (range2 b k m) w e = rw e
unknown_look (tow b) w e = rw e
unknown_look (wnc b) w e = rw e
unknown_look (write d buffer) w e = rw e

unknown : (c : Call) (w : CWorld) → state_of w.state ≡ None → (told (reply_back c w (step_c c w).answer)).refusal ≡ Some 1
unfolding step_c open_c feed_c finish_c stage_c withdraw_c
unknown (open_run x) w e = rw e
unknown (feed piece) w e = rw e
unknown finish w e = rw e
unknown (table (stage t)) w e = rw e
unknown (table withdraw) w e = rw e
unknown (look l) w e = unknown_look l w e

empty_look : (l : Look) (w : CWorld) → state_of w.state ≡ None → part_of (reply_back (look l) w (looked_c l w)) ≡ []
unfolding bytes_c sub_bytes_c
empty_look bytes w e = rw e
empty_look (body b i) w e = refl
empty_look (sub b k j) w e = refl
empty_look (sub_bytes b k) w e = rw e
empty_look (sub2 b k m j) w e = refl
empty_look (range b k) w e = refl
empty_look (range2 b k m) w e = refl
empty_look (tow b) w e = refl
empty_look (wnc b) w e = refl
empty_look (write d buffer) w e = refl

empty : (c : Call) (w : CWorld) → state_of w.state ≡ None → part_of (reply_back c w (step_c c w).answer) ≡ []
unfolding step_c open_c feed_c finish_c stage_c withdraw_c
empty (open_run x) w e = rw e
empty (feed piece) w e = rw e
empty finish w e = rw e
empty (table (stage t)) w e = rw e
empty (table withdraw) w e = rw e
empty (look l) w e = empty_look l w e

keeps : (c : Call) (w : CWorld) → state_of w.state ≡ None → (step_c c w).world ≡ w
unfolding step_c open_c feed_c finish_c stage_c withdraw_c
keeps (open_run x) w e = rw e
keeps (feed piece) w e = rw e
keeps finish w e = rw e
keeps (table (stage t)) w e = rw e
keeps (table withdraw) w e = rw e
keeps (look l) w e = refl

unwritten : (d : Draft) (buffer : List ℕ) (w : CWorld) → state_of w.state ≡ None
    → (told (reply_back (look (write d buffer)) w (step_c (look (write d buffer)) w).answer)).buffer ≡ Some buffer
unfolding step_c write_c
unwritten d buffer w e = rw e

-- ---- every other state is one of the reader's

in-phase : (s : CState) (n : ℕ) → s.phase ≡ n → s ≡ record { phase = n; held = s.held; standing = s.standing; counts = s.counts; settings = s.settings; in_force = s.in_force; waiting = s.waiting }
in-phase s n e = ap (λ (x : ℕ). record { phase = x; held = s.held; standing = s.standing; counts = s.counts; settings = s.settings; in_force = s.in_force; waiting = s.waiting }) e

same_state : (s : CState) {t u : State} → state_of s ≡ Some t → state_of s ≡ Some u → u ≡ t
same_state s {t} {u} e f = ap (λ (o : Option State). unwrap_or o u) (sym f ∙ e)

known_by : (s : CState) (t : State) (n : ℕ) → s.phase ≡ n → state_of s ≡ Some t → s ≡ state_c t
known_by s t zero e f = in-phase s 0 e ∙ ap state_c (same_state s f (closed_of s e))
known_by s t (suc zero) e f = in-phase s 1 e ∙ ap state_c (same_state s f (feeding-of s e))
known_by s t (suc (suc zero)) e f = in-phase s 2 e ∙ ap state_c (same_state s f (finishing-of s e))
known_by s t (suc (suc (suc n))) e f = nothing_there (sym (none_over s (omega arith)) ∙ f)

-- ---- where parts stand

at_by : (o : Option ℕ) (x : Seen) (b : List ℕ) (k l : ℕ) → (part_c (first_of o (number_by x)) (place_unless o (place_by b k x)).at l).offset ≡ (place_unless o (place_by b k x)).at
at_by (Some n) x b k l = refl
at_by None (refused_by n) b k l = refl
at_by None (row r) b k l = refl

start_by : (x : Option ℕ) (l : ℕ) → (part_c x 0 l).offset ≡ 0
start_by None l = refl
start_by (Some n) l = refl

long_by : (x : Option ℕ) (at : ℕ) (xs v : List ℕ) → cut (part_c x at (length xs)) v ≡ xs → length (cut (part_c x at (length xs)) v) ≡ (part_c x at (length xs)).length
long_by None at xs v e = ap length e
long_by (Some n) at xs v e = refl

-- of any state of C's: it stands for one, or for none
bytes_at_by : (hold : List ℕ) (o : Option State) → (hands (λ t. bytes_refusal t hold) (λ t. 0) (λ t. bytes_of t hold) o).part.offset ≡ 0
bytes_at_by hold None = refl
bytes_at_by hold (Some t) = start_by (bytes_refusal t hold) (length (bytes_of t hold))

bytes_at : (s : CState) (hold : List ℕ) → (bytes_c s hold).part.offset ≡ 0
unfolding bytes_c
bytes_at s hold = bytes_at_by hold (state_of s)

bytes_all_by : (hold : List ℕ) (o : Option State) → let p = (hands (λ t. bytes_refusal t hold) (λ t. 0) (λ t. bytes_of t hold) o).part in length (cut p hold) ≡ p.length
bytes_all_by hold None = refl
bytes_all_by hold (Some t) = long_by (bytes_refusal t hold) 0 (bytes_of t hold) hold (bytes_cut t hold)

bytes_all : (s : CState) (hold : List ℕ) → length (cut (bytes_c s hold).part hold) ≡ (bytes_c s hold).part.length
unfolding bytes_c
bytes_all s hold = bytes_all_by hold (state_of s)

sub_all_by : (force b : List ℕ) (k : ℕ) (o : Option State) → let p = (hands (λ t. sub_bytes_refusal t force b k) (λ t. (sub_place_of t force b k).at) (λ t. sub_bytes_of t force b k) o).part in length (cut p b) ≡ p.length
sub_all_by force b k None = refl
sub_all_by force b k (Some t) = long_by (sub_bytes_refusal t force b k) (sub_place_of t force b k).at (sub_bytes_of t force b k) b (sub_cut t force b k)

sub_bytes_all : (s : CState) (force b : List ℕ) (k : ℕ) → length (cut (sub_bytes_c s force b k).part b) ≡ (sub_bytes_c s force b k).part.length
unfolding sub_bytes_c
sub_bytes_all s force b k = sub_all_by force b k (state_of s)

sub_bytes_at : (s : State) (force b : List ℕ) (k : ℕ) → (sub_bytes_c (state_c s) force b k).part.offset ≡ (sub_place_of s force b k).at
unfolding sub_bytes_c sub_bytes_refusal sub_block_refusal sub_place_of sub_place
sub_bytes_at s force b k =
    ap (λ (h : Handing). h.part.offset) (hands_it (λ t. sub_bytes_refusal t force b k) (λ t. (sub_place_of t force b k).at) (λ t. sub_bytes_of t force b k) s)
    ∙ at_by (ask_refusal s force) (seen_sub (decode (table_in_force s force)) b k) b k (length (sub_bytes_of s force b k))

pub through_c : ThroughC
through_c =
    record {
      means = means;
      leaves = leaves;
      answers = answers;
      ends = ends;
      same = same;
      known = λ s t. known_by s t s.phase refl;
      unknown = unknown;
      empty = empty;
      keeps = keeps;
      unwritten = unwritten;
      bytes_at = bytes_at;
      bytes_all = bytes_all;
      sub_bytes_at = sub_bytes_at;
      sub_bytes_all = sub_bytes_all;
    }
