-- Progress: More takes all, and Finish comes to End.
-- Assumes nothing.
use Prim.Native.Nat.{ℕ, zero, suc, min, ◌-◌, ◌≤◌, ◌<◌}
use native.Mathlib.Omega.{arith}
use mathlib.Core.Path.{◌≡◌, refl, ap, ◌∙◌, subst, subst⁻¹}
use mathlib.Core.Bool.{◌&&◌}
use mathlib.Core.List.{List}
use mathlib.Core.Logic.{◌⊎◌, inl, inr}
use Rattle.std.proofs.Common.{Option, None, Some, IsSome}
use lib.ListN.{length, length-drop}
use borrow.Author.Tests.{le-leb}
use Rattle.scan.specs.Settle.{settle}
use Rattle.scan.specs.Feed.{feed_lit, stop, size}
use Rattle.frame.specs.Judge.{judged, judged_last}
use Rattle.scan.proofs.Settling.{settle_rest}
use Rattle.scan.proofs.Calls.{Took, fed_took}
use Rattle.wire.proofs.Tests.{lt?}
use Rattle.reader.specs.State.{limit, ceiling_of, sound}
use Rattle.reader.specs.Said.{Said, took}
use Rattle.reader.specs.Refusals.{long_hold}
use Rattle.runs.specs.Refusals.{feed_refusal, finish_refusal}
use Rattle.runs.specs.Calls.{report_if, feeding_of, finishing_of, finish_said, phase_after, front}
use Rattle.reader.proofs.Laws.{passes, with_hold}
use Rattle.runs.proofs.Feeding.{Whole, WholeIf, end_whole}
use Rattle.reader.specs.declared.Settings.{Settings}
use Rattle.demands.specs.World.{World, Call, feed, finish, Reply, said, told, Step, step, end}
use Rattle.demands.specs.Sequence.{Within, at_open}
use Rattle.demands.specs.Progress.{EndsAfter, Progress}
use Rattle.demands.proofs.Steps.{How, isnt, is, how, refusal, done, unless_refused, by_refusal}
use Rattle.demands.proofs.Reached.{Good, good_sound, good_step, good_end}
use Rattle.demands.proofs.Live.{Live, live_step, live_end, stands}
use Rattle.demands.proofs.Going.{kept, kept_length, kept_after, hold_length}
use Rattle.demands.proofs.Calls.{finish_fits}

-- ---- More

pub none_if : (o : Option ℕ) (t n p : ℕ) (v : List ℕ) → took t (report_if o p v) ≡ took n None → (o ≡ None) × (t ≡ n)
none_if None t n p v e = let q : t ≡ n = cc in (refl, q)
none_if (Some k) t n p v e = let z : ◌≡◌ {A = ℕ} 0 1 = cc in let f : ⊥ = omega arith in absurd f

pub said_is : (a b : Said) → said a ≡ said b → a ≡ b
said_is a b e = cc

more_by : (w : World) (piece : List ℕ) (n : ℕ) {r : Step} → How (feed piece) w r → r.answer ≡ said (took n None)
    → (n ≡ length piece) ⊎ (r.world.state.run.counts.taken ≡ limit)
unfolding feeding_of feed_refusal
more_by w piece n (isnt k e) f = let z : ◌≡◌ {A = ℕ} 0 1 = cc in let x : ⊥ = omega arith in absurd x
more_by w piece n (is e) f =
    let h = (with_hold w.state w.hold (passes (sound w.state && long_hold w.hold) 1 _ e).0).0 in
    let room = limit - w.state.run.counts.taken in
    let F = feed_lit (ceiling_of w.state) (kept w) piece (limit - w.state.run.counts.taken) in
    let q = none_if F.standing F.taken n (front (done (feed piece) w).world.state.run) F.held (said_is _ _ f) in
    let t : F.taken ≡ min (limit - w.state.run.counts.taken) (length piece) = subst (λ (o : Option ℕ). Took o F.taken (min room (length piece))) q.0 (fed_took (judged (ceiling_of w.state)) piece room (kept w)) in
    lt? (limit - w.state.run.counts.taken) (length piece) (λ l. inr (omega (arith, t, h.taken))) (λ l. inl (omega (arith, t, q.1)))

-- ---- Finish

no_refusal : (w : World) → Good w → Live w → 65536 ≤ length w.hold → refusal finish w ≡ None
unfolding finish_refusal
no_refusal w g v l = rw (good_sound w g, le-leb 65536 (length w.hold) l, v) refl

finish_done : (w : World) → Good w → Live w → 65536 ≤ length w.hold → step finish w ≡ done finish w
finish_done w g v l = by_refusal finish w ∙ ap (λ (o : Option ℕ). unless_refused o finish w) (no_refusal w g v l)

-- what Finish left is fewer bytes than before, where it reported a block
fewer : (w : World) (m : ℕ) → Good w → (settle (judged_last (ceiling_of w.state)) (kept w)).standing ≡ Some m → length (kept (done finish w).world) < length (kept w)
unfolding finishing_of
fewer w m g q =
    let f = stop (settle (judged_last (ceiling_of w.state)) (kept w)) in
    let r = settle_rest (judged_last (ceiling_of w.state)) (kept w) in
    let b : Whole m (settle (judged_last (ceiling_of w.state)) (kept w)).rest = subst (λ (o : Option ℕ). WholeIf o (settle (judged_last (ceiling_of w.state)) (kept w)).rest) q (end_whole (ceiling_of w.state) (kept w)) in
    let k = ap length (kept_after (phase_after (settle (judged_last (ceiling_of w.state)) (kept w)).standing) w f g (finish_fits w g)) in
    let s : size (settle (judged_last (ceiling_of w.state)) (kept w)).standing ≡ m = ap size q in
    omega (arith, k, length-drop (size (settle (judged_last (ceiling_of w.state)) (kept w)).standing) (settle (judged_last (ceiling_of w.state)) (kept w)).rest, s, b.eight, b.there, ap length r.is, length-drop (length (settle (judged_last (ceiling_of w.state)) (kept w)).passed) (kept w), r.few)

module _ (w : World) (g : Good w) (v : Live w) (l : 65536 ≤ length w.hold) where
  -- what Finish says, by the block that stands after it
  said_finish : (o : Option ℕ) → (settle (judged_last (ceiling_of w.state)) (kept w)).standing ≡ o
      → (step finish w).answer ≡ said (finish_said o (done finish w).world.state.run (settle (judged_last (ceiling_of w.state)) (kept w)).rest)
  unfolding finishing_of
  said_finish o q =
      ap (λ (r : Step). r.answer) (finish_done w g v l)
      ∙ ap (λ (i : Option ℕ). said (finish_said i (done finish w).world.state.run (settle (judged_last (ceiling_of w.state)) (kept w)).rest)) q

  still_long : 65536 ≤ length (step finish w).world.hold
  still_long =
      let e = finish_done w g v l in
      let few : length (finishing_of w.state w.hold).held ≤ 65532 = subst (λ (r : Step). r.world.state.run.held ≤ 65532) e (good_step finish w g).sound.few in
      omega (arith, ap (λ (r : Step). length r.world.hold) e, hold_length (finishing_of w.state w.hold) w.hold (omega arith))

-- End comes after at most k blocks
abbrev Reaches : World → ℕ → Type 0
Reaches w k = (n : ℕ) × ((n ≤ k) × EndsAfter n w)

reach_now : (k : ℕ) (w : World) → (settle (judged_last (ceiling_of w.state)) (kept w)).standing ≡ None → Good w → Live w → 65536 ≤ length w.hold → Reaches w k
unfolding EndsAfter
reach_now k w q g v l = (0, (omega arith, subst⁻¹ (λ (a : Reply). IsSome (told a).end) (said_finish w g v l None q) refl))

reach_more : (k : ℕ) (w : World) → IsSome (told (step finish w).answer).block → Reaches (step finish w).world k → Reaches w (suc k)
unfolding EndsAfter
reach_more k w b r = (suc r.0, (omega (arith, r.1.0), (b, r.1.1)))

abbrev Reached : ℕ → Type 0
Reached k = (w : World) → length (kept w) ≤ k → Good w → Live w → 65536 ≤ length w.hold → Reaches w k

reach_zero : (w : World) (o : Option ℕ) → (settle (judged_last (ceiling_of w.state)) (kept w)).standing ≡ o → length (kept w) ≤ 0 → Good w → Live w → 65536 ≤ length w.hold → Reaches w 0
reach_zero w None q n g v l = reach_now 0 w q g v l
reach_zero w (Some m) q n g v l = let z : ⊥ = omega (arith, fewer w m g q) in absurd z

reach_suc : (k : ℕ) → Reached k → (w : World) (o : Option ℕ) → (settle (judged_last (ceiling_of w.state)) (kept w)).standing ≡ o → length (kept w) ≤ suc k → Good w → Live w → 65536 ≤ length w.hold → Reaches w (suc k)
reach_suc k rec w None q n g v l = reach_now (suc k) w q g v l
reach_suc k rec w (Some m) q n g v l =
    let e = said_finish w g v l (Some m) q in
    let less : length (kept (step finish w).world) < length (kept w) = subst⁻¹ (λ (r : Step). length (kept r.world) < length (kept w)) (finish_done w g v l) (fewer w m g q) in
    reach_more k w (subst⁻¹ (λ (a : Reply). IsSome (told a).block) e refl)
    (rec (step finish w).world (omega arith) (good_step finish w g) (live_step finish w v (ap (λ (a : Reply). (told a).end) e)) (still_long w g v l))

reach : (k : ℕ) → Reached k
reach zero w n g v l = reach_zero w (settle (judged_last (ceiling_of w.state)) (kept w)).standing refl n g v l
reach (suc k) w n g v l = reach_suc k (reach k) w (settle (judged_last (ceiling_of w.state)) (kept w)).standing refl n g v l

finish_ends : (w : World) (before : List Call) (x : Settings) (mid : List Call) → Within w before x mid → 65536 ≤ length (end mid (at_open w before x)).hold
    → Reaches (end mid (at_open w before x)) (end mid (at_open w before x)).state.run.held
finish_ends w before x mid h l =
    let s = stands w before x mid h in
    let u = end mid (at_open w before x) in
    let g = good_end mid (at_open w before x) s.good in
    reach u.state.run.held u (omega (arith, kept_length u g)) g (live_end mid (at_open w before x) s.live h.no_end) l

pub progress : Progress
progress = record { more = λ w piece n e. more_by w piece n (how (feed piece) w) e; ends = finish_ends }
