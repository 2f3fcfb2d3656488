-- Sound states: each call keeps the sum by what it took, skipped and kept.
-- Assumes nothing.
use Prim.Native.Nat.{ℕ, ◌+◌, ◌-◌, ◌≤◌}
use native.Mathlib.Omega.{arith}
use native.Mathlib.Nat.{add-zero}
use mathlib.Core.Path.{◌≡◌, refl, subst, subst⁻¹}
use mathlib.Core.Bool.{Bool, true, false, ◌&&◌, cond}
use mathlib.Core.List.{List, []}
use Rattle.std.proofs.Common.{Option, None, Some}
use lib.ListN.{length}
use lib.Dec.{ltb}
use borrow.Author.Tests.{le-leb}
use Rattle.frame.specs.Frame.{greatest_ceiling, ceiling_ok}
use Rattle.scan.specs.Settle.{settle}
use Rattle.scan.specs.Feed.{Intake, feed_lit, stop, size}
use Rattle.wire.proofs.Tests.{both_true}
use Rattle.feed.proofs.Bounds.{fed_held}
use Rattle.frame.specs.Judge.{judged, judged_last}
use Rattle.scan.proofs.Stable.{judging}
use Rattle.scan.proofs.Calls.{call, settle_sum}
use Rattle.feed.specs.Hold.{rest_of}
use Rattle.feed.proofs.Literally.{rest_length}
use Rattle.table.proofs.Passed.{passed}
use Rattle.reader.specs.State.{limit, ceiling_of, sound}
use Rattle.tables.specs.Calls.{open_refusal, stage_refusal, withdraw_refusal, opening, open_of, staging, stage_of, withdrawing, withdraw_of}
use Rattle.runs.specs.Refusals.{feed_refusal, finish_refusal}
use Rattle.reader.specs.Refusals as refusals
use Rattle.reader.specs.Said.{Said, took}
use Rattle.reader.specs.Outcome.{Outcome, unless}
use Rattle.reader.specs.Counting.{one, with_run}
use Rattle.runs.specs.Calls.{report_if, front, finish_said, phase_after, run_on, feeding_by, feeding_of, feed_of, finishing_by, finishing_of, finish_of}
use Rattle.reader.specs.declared.Phase.{Phase}
use Rattle.reader.specs.declared.Phase.TheVariants as phase
use Rattle.reader.specs.declared.Run.{Run}
use Rattle.reader.specs.declared.Settings.{Settings}
use Rattle.reader.specs.declared.State.{State}
use Rattle.reader.proofs.Laws.{passes, with_hold}
use Rattle.tables.proofs.Accepted.{stage_free}
use Rattle.runs.proofs.Feeding.{WholeIf, fed_whole, end_whole}
use Rattle.demands.specs.World.{World, stage, withdraw, Call, open_run, feed, finish, table, look, said, told, step}
use Rattle.demands.specs.Soundness.{Sound, report_size, since_open, SoundKept}

-- the bytes of the block that an answer reports
abbrev size_in : Said → ℕ
size_in a = report_size (told (said a)).block

-- a refused call keeps the state, and reports nothing; else what is done has to
kept : (o : Option ℕ) (s : State) (b : ℕ) (l : List ℕ) (d : Outcome) → Sound s b → (o ≡ None → Sound d.state (b + size_in d.said))
    → Sound (unless o s l d).state (b + size_in (unless o s l d).said)
kept (Some n) s b l d h f = subst⁻¹ (Sound s) (add-zero b) h
kept None s b l d h f = f refl

-- the same where no call reports
same : (o : Option ℕ) (s : State) (b : ℕ) (l : List ℕ) (d : Outcome) → Sound s b → (o ≡ None → Sound d.state b) → Sound (unless o s l d).state b
same (Some n) s b l d h f = h
same None s b l d h f = f refl

fed_size : (o : Option ℕ) (t p : ℕ) (v : List ℕ) → size o ≡ size_in (took t (report_if o p v))
fed_size None t p v = refl
fed_size (Some n) t p v = refl

end_size : (o : Option ℕ) (r : Run) (v : List ℕ) → size o ≡ size_in (finish_said o r v)
end_size None r v = refl
end_size (Some n) r v = refl

one_le : (o : Option ℕ) (v : List ℕ) → WholeIf o v → one o ≤ size o
one_le None v w = omega arith
one_le (Some n) v w = omega (arith, w.eight)

whole_le : (o : Option ℕ) (v : List ℕ) → WholeIf o v → size o ≤ length v
whole_le None v w = omega arith
whole_le (Some n) v w = w.there

-- the run goes on by what was taken, skipped and kept
went_on : (x : Phase) (s : State) (b n : ℕ) (F : Intake) → Sound s b → n ≡ s.run.held - s.run.standing → n + F.taken ≡ length F.passed + length F.held
    → length F.held ≤ 65532 → F.taken ≤ limit - s.run.counts.taken → WholeIf F.standing F.held
    → Sound (with_run s (run_on x s.run F)) (b + size F.standing)
went_on x s b n F h e sum l t w =
    let o = whole_le F.standing F.held w in
    record {
      few = l;
      front = o;
      among = omega arith;
      count = omega (arith, h.count, one_le F.standing F.held w);
      sum = omega (arith, h.sum, sum, o);
      most = omega (arith, h.most, t);
      force = h.force;
      wait = h.wait;
      ceiling = h.ceiling;
    }

feed_done : (s : State) (b : ℕ) (hold piece : List ℕ) → Sound s b → feed_refusal s hold piece ≡ None
    → Sound (feeding_by (feeding_of s hold piece) s hold).state (b + size_in (feeding_by (feeding_of s hold piece) s hold).said)
unfolding feed_refusal feeding_of
feed_done s b hold piece h e =
    let f = with_hold s hold (passes (sound s && refusals.long_hold hold) 1 _ e).0 in
    let top = ceiling_of s in
    let rest = rest_of hold s.run.held s.run.standing in
    let room = limit - s.run.counts.taken in
    let lr : length (rest_of hold s.run.held s.run.standing) ≡ s.run.held - s.run.standing = rest_length hold s.run.held s.run.standing h.front (omega (arith, h.few, f.1)) in
    let k = call (judged top) (judging top).fits rest piece room in
    subst (λ (c : ℕ). Sound (feeding_by (feed_lit top rest piece room) s hold).state (b + c))
    (fed_size (feed_lit top rest piece room).standing (feed_lit top rest piece room).taken (front (run_on phase.Feeding s.run (feed_lit top rest piece room))) (feed_lit top rest piece room).held)
    (went_on _ s b (length rest) (feed_lit top rest piece room) h lr k.sum
    (fed_held top f.0.ceiling.high piece room rest (omega (arith, lr, h.few))) (omega (arith, k.taken))
    (fed_whole top rest piece room))

finish_done : (s : State) (b : ℕ) (hold : List ℕ) → Sound s b → finish_refusal s hold ≡ None
    → Sound (finishing_by (finishing_of s hold) s hold).state (b + size_in (finishing_by (finishing_of s hold) s hold).said)
unfolding finish_refusal finishing_of
finish_done s b hold h e =
    let f = with_hold s hold (passes (sound s && refusals.long_hold hold) 1 _ e).0 in
    let rest = rest_of hold s.run.held s.run.standing in
    let lr : length (rest_of hold s.run.held s.run.standing) ≡ s.run.held - s.run.standing = rest_length hold s.run.held s.run.standing h.front (omega (arith, h.few, f.1)) in
    let last = judged_last (ceiling_of s) in
    let k = settle_sum last rest in
    let x = phase_after (settle last rest).standing in
    subst (λ (c : ℕ). Sound (finishing_by (stop (settle last rest)) s hold).state (b + c))
    (end_size (settle last rest).standing (run_on x s.run (stop (settle last rest))) (settle last rest).rest)
    (went_on _ s b (length rest) (stop (settle last rest)) h lr k (omega (arith, k, lr, h.few)) (omega arith)
    (end_whole (ceiling_of s) rest))

length_by : (b : Bool) (m n : ℕ) → m ≤ 8192 → n ≤ 8192 → cond b m n ≤ 8192
length_by true m n h k = h
length_by false m n h k = k

open_done : (s : State) (x : Settings) (b : ℕ) (force wait : List ℕ) → Sound s b → open_refusal s x force wait ≡ None → Sound (opening s x force wait).state 0
unfolding open_refusal
open_done s x b force wait h e =
    record {
      few = omega arith;
      front = omega arith;
      among = omega arith;
      count = omega arith;
      sum = refl;
      most = omega arith;
      force = length_by (ltb 0 s.waiting) s.waiting s.in_force h.wait h.force;
      wait = omega arith;
      ceiling =
          (passes (ceiling_ok x.ceiling) 13 _
          (passes (refusals.is_closed s.run.phase) 2 _ (passes (sound s && refusals.long_store force && refusals.long_store wait) 1 _ e).1).1).0;
    }

opens_by : (o : Option ℕ) (s : State) (x : Settings) (b : ℕ) (force wait : List ℕ) → Sound s b → open_refusal s x force wait ≡ o
    → Sound (unless o s force (opening s x force wait)).state (since_open (open_run x) (told (said (unless o s force (opening s x force wait)).said)) b)
opens_by (Some n) s x b force wait h e = h
opens_by None s x b force wait h e = open_done s x b force wait h e

-- with another waiting length
pub waits_on : (s : State) (b n : ℕ) → Sound s b → n ≤ 8192 → Sound (record { run = s.run; in_force = s.in_force; waiting = n }) b
waits_on s b n h l =
    record { few = h.few; front = h.front; among = h.among; count = h.count; sum = h.sum; most = h.most; force = h.force; wait = l; ceiling = h.ceiling }

kept_by : (c : Call) (w : World) (b : ℕ) → Sound w.state b
    → Sound (step c w).world.state (since_open c (told (step c w).answer) b)
unfolding step open_of feed_of finish_of stage_of withdraw_of
kept_by (open_run x) w b h = opens_by (open_refusal w.state x w.force w.wait) w.state x b w.force w.wait h refl
kept_by (feed piece) w b h =
    let s = w.state in
    kept (feed_refusal s w.hold piece) s b w.hold (feeding_by (feeding_of s w.hold piece) s w.hold) h (feed_done s b w.hold piece h)
kept_by finish w b h =
    let s = w.state in
    kept (finish_refusal s w.hold) s b w.hold (finishing_by (finishing_of s w.hold) s w.hold) h (finish_done s b w.hold h)
kept_by (table (stage t)) w b h =
    same (stage_refusal w.state w.wait t) w.state b w.wait (staging w.state w.wait t) h
    (λ e. waits_on w.state b (length t) h (passed t (stage_free w.state w.wait t e).1).file.most)
kept_by (table withdraw) w b h =
    same (withdraw_refusal w.state) w.state b [] (withdrawing w.state) h (λ e. waits_on w.state b 0 h (omega arith))
kept_by (look l) w b h = h

passes_one : (s : State) (b : ℕ) → Sound s b → sound s ≡ true
unfolding sound
passes_one s b h =
    let within : s.run.held ≤ s.run.counts.taken = omega (arith, h.sum, h.among, h.front) in
    let blocks : s.run.counts.blocks ≤ s.run.counts.taken = omega (arith, h.sum, h.count) in
    let skipped : s.run.counts.skipped ≤ s.run.counts.taken = omega (arith, h.sum) in
    both_true
    (both_true
    (both_true
    (both_true
    (both_true
    (both_true
    (both_true (both_true (le-leb s.run.held 65532 h.few) (le-leb s.run.held s.run.counts.taken within)) (le-leb s.run.standing s.run.held h.front))
    (le-leb s.in_force 8192 h.force))
    (le-leb s.waiting 8192 h.wait))
    (le-leb s.run.counts.taken limit h.most))
    (le-leb s.run.counts.blocks s.run.counts.taken blocks))
    (le-leb s.run.counts.skipped s.run.counts.taken skipped))
    h.ceiling

new_ceiling : ceiling_ok greatest_ceiling ≡ true
unfolding ceiling_ok
new_ceiling = refl

pub sound_kept : SoundKept
sound_kept =
    record {
      new = record { few = omega arith; front = omega arith; among = omega arith; count = omega arith; sum = refl; most = omega arith; force = omega arith; wait = omega arith; ceiling = new_ceiling };
      keeps = kept_by;
      passes = passes_one;
    }
