-- One call more of a run: what is reported so far, and then from the place on, is the reading of the bytes taken.
-- Assumes nothing.
use Prim.Native.Nat.{ℕ, zero, suc, ◌+◌, ◌-◌}
use native.Mathlib.Omega.{arith}
use mathlib.Core.Path.{◌≡◌, refl, sym, ap, ap₂, ◌∙◌, subst⁻¹}
use mathlib.Core.Bool.{true, ◌&&◌}
use mathlib.Core.List.{List, [], ◌++◌, append-nil, append_assoc}
use Rattle.std.proofs.Common.{Option, None, Some}
use lib.ListN.{length, take, drop, length-append}
use lib.Seq.{length-take-le, drop-append-le, drop-drop}
use Rattle.scan.specs.Settle.{settle}
use Rattle.scan.specs.Feed.{Intake, feed_lit, stop, size}
use Rattle.framing.specs.ReadRun.{ReadBlock, read_run}
use Rattle.frame.specs.Judge.{judged, judged_last}
use Rattle.scan.proofs.Stable.{judging, last_fits}
use Rattle.scan.proofs.Settling.{settle_rest, settle_front}
use Rattle.scan.proofs.Calls as calls
use Rattle.framing.proofs.Reading.{both, places_from, blocks_of, answer, both_both, fed_answers, last_answers}
use Rattle.reader.specs.State.{limit, ceiling_of, sound}
use Rattle.reader.specs.Refusals.{long_hold}
use Rattle.runs.specs.Refusals.{is_feeding, feed_refusal}
use Rattle.reader.specs.Counting.{one}
use Rattle.runs.specs.Calls.{run_on, feeding_of, finishing_of, phase_after}
use Rattle.reader.specs.declared.Phase.{Phase}
use Rattle.reader.specs.declared.Phase.TheVariants as phase
use Rattle.reader.proofs.Laws.{passes}
use Rattle.runs.proofs.Feeding.{fed_whole, end_whole}
use Rattle.demands.specs.World.{World, Call, feed, finish, told, Step}
use Rattle.demands.specs.Sequence.{took_of, in_hold}
use Rattle.demands.specs.Demand2.{MayFollow}
use Rattle.demands.proofs.Steps.{refusal, done, clash}
use Rattle.demands.proofs.Reached.{Good}
use Rattle.demands.proofs.Going.{kept, going, within, kept_length, FitsHold, kept_after, place_after, in_hold_lem, finish_report}
use Rattle.demands.specs.Demand2.{place_now}

-- the run so far took the bytes t and reported the blocks b; with what follows it reads as these, by its ceiling, and then from the place on
pub record ReadsAs (t : List ℕ) (b : List ReadBlock) (w : World) : Type 0 where
  pub count : w.state.run.counts.taken ≡ length t
  pub sum : w.state.run.counts.blocks ≡ length b
  pub places : List ℕ
  pub skips : w.state.run.counts.skipped ≡ length places
  pub rest : kept w ≡ drop (place_now w) t
  pub so : (zs : List ℕ) → MayFollow w.state.run.phase zs
      → read_run (ceiling_of w.state) 0 (t ++ zs) ≡ both (record { blocks = b; skipped = places }) (read_run (ceiling_of w.state) (place_now w) (kept w ++ zs))

follow_none : (x : Phase) → MayFollow x []
follow_none phase.Closed = refl
follow_none phase.Feeding = tt
follow_none phase.Finishing = refl

follow_fed : (x : Phase) (zs : List ℕ) → is_feeding x ≡ true → MayFollow x zs
follow_fed phase.Closed zs e = clash (sym e)
follow_fed phase.Feeding zs e = tt
follow_fed phase.Finishing zs e = clash (sym e)

places_count : (p n : ℕ) → length (places_from p n) ≡ n
unfolding places_from
places_count p zero = refl
places_count p (suc n) = ap suc (places_count (p + 1) n)

length_blocks : (o : Option ℕ) (p : ℕ) (v : List ℕ) → length (blocks_of o p v) ≡ one o
length_blocks None p v = refl
length_blocks (Some n) p v = refl

-- ---- a call that goes on in the run

module _ (x : Phase) (w : World) (bs : List ℕ) (f : Intake) (blk : List ReadBlock)
    (g : Good w) (h : FitsHold w f) (n : f.taken ≡ length bs) (a : blk ≡ blocks_of f.standing (place_now w + length f.passed) f.held)
    (d : f.held ≡ drop (length f.passed) (kept w ++ bs)) where
  -- what is left is what was left and is new, without what was skipped and the block
  rest_after : (ts : List ℕ) → w.state.run.counts.taken ≡ length ts → kept w ≡ drop (place_now w) ts → kept (going x w f) ≡ drop (place_now (going x w f)) (ts ++ bs)
  rest_after ts c r =
      let o = size f.standing in
      kept_after x w f g h
      ∙ ap (drop o) (d ∙ ap (λ (y : List ℕ). drop (length f.passed) (y ++ bs)) r
      ∙ ap (drop (length f.passed)) (sym (drop-append-le (place_now w) ts bs (omega (arith, c, within w g, g.sound.front))))
      ∙ drop-drop (length f.passed) (place_now w) (ts ++ bs))
      ∙ drop-drop o (place_now w + length f.passed) (ts ++ bs)
      ∙ ap (λ (i : ℕ). drop i (ts ++ bs)) (sym (place_after x w f g h))

  go : {ts : List ℕ} {b : List ReadBlock} → ((zs : List ℕ) → MayFollow x zs → MayFollow w.state.run.phase (bs ++ zs))
      → ((zs : List ℕ) → MayFollow x zs
      → read_run (ceiling_of w.state) (place_now w) (kept w ++ (bs ++ zs)) ≡ both (answer f.standing (place_now w) (length f.passed) f.held) (read_run (ceiling_of w.state) (place_now w + length f.passed + size f.standing) (drop (size f.standing) f.held ++ zs)))
      → ReadsAs ts b w → ReadsAs (ts ++ bs) (b ++ blk) (going x w f)
  go {ts} {b} fol e r =
      record {
        count = omega (arith, r.count, length-append ts bs, n);
        sum = omega (arith, r.sum, length-append b blk, ap length a, length_blocks f.standing (place_now w + length f.passed) f.held);
        places = r.places ++ places_from (place_now w) (length f.passed);
        skips = omega (arith, r.skips, length-append r.places (places_from (place_now w) (length f.passed)), places_count (place_now w) (length f.passed));
        rest = rest_after ts r.count r.rest;
        so = λ zs y.
            ap (read_run (ceiling_of w.state) 0) (append_assoc ts bs zs)
            ∙ r.so (bs ++ zs) (fol zs y)
            ∙ ap (both (record { blocks = b; skipped = r.places })) (e zs y)
            ∙ both_both (record { blocks = b; skipped = r.places }) (answer f.standing (place_now w) (length f.passed) f.held) (read_run (ceiling_of w.state) (place_now w + length f.passed + size f.standing) (drop (size f.standing) f.held ++ zs))
            ∙ ap (λ (i : List ReadBlock). both (record { blocks = b ++ i; skipped = r.places ++ places_from (place_now w) (length f.passed) }) (read_run (ceiling_of w.state) (place_now w + length f.passed + size f.standing) (drop (size f.standing) f.held ++ zs))) (sym a)
            ∙ ap₂ (λ (i : ℕ) (j : List ℕ). both (record { blocks = b ++ blk; skipped = r.places ++ places_from (place_now w) (length f.passed) }) (read_run (ceiling_of w.state) i (j ++ zs)))
            (sym (place_after x w f g h)) (sym (kept_after x w f g h));
      }

-- ---- Feed

-- what it took and reported, with the result of the call
abbrev pub Next : Call → List ℕ → List ReadBlock → Step → Type 0
Next c ts b x = ReadsAs (ts ++ took_of c x.answer) (b ++ in_hold (told x.answer).block x.world) x.world

pub feed_fits : (w : World) (piece : List ℕ) → Good w → FitsHold w (feeding_of w.state w.hold piece)
unfolding feeding_of
feed_fits w piece g =
    let c = calls.call (judged (ceiling_of w.state)) (judging (ceiling_of w.state)).fits (kept w) piece (limit - w.state.run.counts.taken) in
    record { whole = fed_whole (ceiling_of w.state) (kept w) piece (limit - w.state.run.counts.taken); front = c.front; sum = omega (arith, c.sum, kept_length w g) }

pub reads_feed : (w : World) {ts : List ℕ} {b : List ReadBlock} (piece : List ℕ) → Good w → refusal (feed piece) w ≡ None → ReadsAs ts b w → Next (feed piece) ts b (done (feed piece) w)
unfolding feeding_of feed_refusal
reads_feed w piece g e r =
    let room = limit - w.state.run.counts.taken in
    let f = feed_lit (ceiling_of w.state) (kept w) piece (limit - w.state.run.counts.taken) in
    let h = feed_fits w piece g in
    let n : f.taken ≡ length (take f.taken piece) = sym (length-take-le f.taken piece (omega (arith, (calls.call (judged (ceiling_of w.state)) (judging (ceiling_of w.state)).fits (kept w) piece room).taken))) in
    let fed : is_feeding w.state.run.phase ≡ true = (passes (is_feeding w.state.run.phase) 2 _ (passes (sound w.state && long_hold w.hold) 1 _ e).1).0 in
    go phase.Feeding w (take f.taken piece) f (in_hold (told (done (feed piece) w).answer).block (done (feed piece) w).world) g h n
    (in_hold_lem phase.Feeding w f g h) (calls.fed_holds (judged (ceiling_of w.state)) piece room (kept w))
    (λ zs y. follow_fed w.state.run.phase (take f.taken piece ++ zs) fed)
    (λ zs y. fed_answers (ceiling_of w.state) piece room (place_now w) (kept w) zs)
    r

-- ---- Finish

finish_reads : (c p : ℕ) (h zs : List ℕ) → zs ≡ [] → let s = settle (judged_last c) h in
    read_run c p (h ++ ([] ++ zs))
    ≡ both (answer s.standing p (length s.passed) s.rest) (read_run c (p + length s.passed + size s.standing) (drop (size s.standing) s.rest ++ zs))
finish_reads c p h zs z =
    let s = settle (judged_last c) h in
    subst⁻¹
    (λ (i : List ℕ). read_run c p (h ++ i)
    ≡ both (answer s.standing p (length s.passed) s.rest) (read_run c (p + length s.passed + size s.standing) (drop (size s.standing) s.rest ++ i)))
    z (last_answers c p h)

follow_finish : (o : Option ℕ) (zs : List ℕ) → MayFollow (phase_after o) zs → zs ≡ []
follow_finish None zs e = e
follow_finish (Some n) zs e = e

pub finish_fits : (w : World) → Good w → FitsHold w (finishing_of w.state w.hold)
unfolding finishing_of
finish_fits w g =
    record {
      whole = end_whole (ceiling_of w.state) (kept w);
      front = settle_front (judged_last (ceiling_of w.state)) (last_fits (ceiling_of w.state)) (kept w);
      sum = omega (arith, kept_length w g, calls.settle_sum (judged_last (ceiling_of w.state)) (kept w));
    }

pub reads_finish : (w : World) {ts : List ℕ} {b : List ReadBlock} → Good w → refusal finish w ≡ None → ReadsAs ts b w
    → ReadsAs (ts ++ []) (b ++ in_hold (told (done finish w).answer).block (done finish w).world) (done finish w).world
unfolding finishing_of
reads_finish w g e r =
    let f = stop (settle (judged_last (ceiling_of w.state)) (kept w)) in
    let o = (settle (judged_last (ceiling_of w.state)) (kept w)).standing in
    let x = phase_after (settle (judged_last (ceiling_of w.state)) (kept w)).standing in
    let h = finish_fits w g in
    go (phase_after (settle (judged_last (ceiling_of w.state)) (kept w)).standing) w [] (stop (settle (judged_last (ceiling_of w.state)) (kept w))) (in_hold (told (done finish w).answer).block (done finish w).world) g h refl
    (ap (λ (i : Option _). in_hold i (done finish w).world) (finish_report o (run_on x w.state.run f) (settle (judged_last (ceiling_of w.state)) (kept w)).rest) ∙ in_hold_lem x w f g h)
    ((settle_rest (judged_last (ceiling_of w.state)) (kept w)).is ∙ ap (drop (length (settle (judged_last (ceiling_of w.state)) (kept w)).passed)) (sym (append-nil (kept w))))
    (λ zs y. subst⁻¹ (MayFollow w.state.run.phase) (follow_finish o zs y) (follow_none w.state.run.phase))
    (λ zs y. finish_reads (ceiling_of w.state) (place_now w) (kept w) zs (follow_finish o zs y))
    r
