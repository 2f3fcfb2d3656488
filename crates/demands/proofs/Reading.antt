-- What a run reports is the reading of the bytes that it took, whatever its calls.
-- Assumes nothing.
use Prim.Native.Nat.{ℕ, zero, suc, ◌+◌}
use mathlib.Core.Path.{◌≡◌, refl, sym, ap, ap₂, ◌∙◌, subst, subst⁻¹}
use mathlib.Core.Bool.{◌&&◌}
use mathlib.Core.List.{List, [], ◌∷◌, ◌++◌, append-nil, append_assoc}
use Rattle.std.proofs.Common.{Option, None, Some, unwrap_or, IsSome}
use lib.ListN.{length, take, drop, length-append}
use Rattle.frame.specs.Judge.{judged_last}
use Rattle.scan.specs.Settle.{settle}
use Rattle.scan.specs.Feed.{Intake, stop, size}
use Rattle.framing.specs.ReadRun.{ReadBlock, Reading, read_run}
use Rattle.framing.proofs.Reading.{both, read_end, last_empty}
use Rattle.reader.specs.State.{ceiling_of, sound}
use Rattle.reader.specs.Said.{Report, ended}
use Rattle.reader.specs.Refusals.{long_hold}
use Rattle.runs.specs.Refusals.{feed_refusal, finish_refusal}
use Rattle.runs.specs.Calls.{front, run_on, feeding_of, finishing_of, finish_said, phase_after}
use Rattle.tables.specs.Calls.{opening}
use Rattle.reader.specs.declared.Phase.TheVariants as phase
use Rattle.reader.specs.declared.Phase.{Phase}
use Rattle.reader.specs.declared.Counts.{Counts}
use Rattle.reader.proofs.Laws.{passes, with_hold}
use Rattle.feed.specs.Hold.{rest_of}
use Rattle.reader.specs.declared.Settings.{Settings}
use Rattle.demands.specs.World.{World, TableCall, stage, withdraw, Look, bytes, body, sub, sub_bytes, sub2, range, range2, tow, wnc, write, Call, open_run, feed, finish, table, look, Reply, said, told, Step, looked, step, end}
use Rattle.demands.specs.Sequence.{NoEnd, Within, Closes, at_open, took_of, in_hold, shown, taken, blocks, shown_blocks}
use Rattle.demands.specs.Demand2.{MayFollow, ReadSoFar}
use Rattle.demands.specs.Demand3.{counts_of, RunOf}
use Rattle.demands.proofs.Steps.{How, isnt, is, how, refusal, left_force, done, table_done}
use Rattle.demands.proofs.Reached.{Good, good_step, good_end}
use Rattle.demands.proofs.Live.{Live, not_open, live_step, stands}
use Rattle.demands.proofs.Force as force
use Rattle.demands.proofs.Going.{kept, going, kept_after, FitsHold, finish_report, shown_is}
use Rattle.demands.proofs.Calls.{ReadsAs, Next, reads_feed, reads_finish, finish_fits}
use Rattle.demands.specs.Demand2.{place_now}

-- ---- calls that take and report nothing

nil : {ts : List ℕ} {b : List ReadBlock} {w : World} → ReadsAs ts b w → ReadsAs (ts ++ []) (b ++ []) w
nil {ts} {b} {w} r = subst⁻¹ (λ (x : List ℕ). ReadsAs x (b ++ []) w) (append-nil ts) (subst⁻¹ (λ (x : List ReadBlock). ReadsAs ts x w) (append-nil b) r)

-- another waiting place is not looked at
table_reads : (t : TableCall) (w : World) {ts : List ℕ} {b : List ReadBlock} → ReadsAs ts b w → Next (table t) ts b (table_done t w)
table_reads (stage t) w {ts} {b} r =
    nil {ts = ts} {b = b} (record { count = r.count; sum = r.sum; places = r.places; skips = r.skips; rest = r.rest; so = r.so })
table_reads withdraw w {ts} {b} r =
    nil {ts = ts} {b = b} (record { count = r.count; sum = r.sum; places = r.places; skips = r.skips; rest = r.rest; so = r.so })

look_reads : (l : Look) (w : World) {ts : List ℕ} {b : List ReadBlock} → ReadsAs ts b w → Next (look l) ts b (record { answer = looked l w; world = w })
look_reads bytes w r = nil r
look_reads (body x i) w r = nil r
look_reads (sub x k j) w r = nil r
look_reads (sub_bytes x k) w r = nil r
look_reads (sub2 x k m j) w r = nil r
look_reads (range x k) w r = nil r
look_reads (range2 x k m) w r = nil r
look_reads (tow x) w r = nil r
look_reads (wnc x) w r = nil r
look_reads (write d x) w r = nil r

-- Finish is given no piece
no_piece : (n : ℕ) → take {A = ℕ} n [] ≡ []
no_piece zero = refl
no_piece (suc n) = refl

reads_done : (c : Call) (w : World) {ts : List ℕ} {b : List ReadBlock} → Good w → Live w → refusal c w ≡ None → ReadsAs ts b w → Next c ts b (done c w)
reads_done (open_run x) w g l e r = not_open x w l e
reads_done (feed piece) w g l e r = reads_feed w piece g e r
reads_done finish w {ts} {b} g l e r =
    subst⁻¹ (λ (x : List ℕ). ReadsAs (ts ++ x) (b ++ in_hold (told (done finish w).answer).block (done finish w).world) (done finish w).world)
    (no_piece (unwrap_or (told (done finish w).answer).taken 0)) (reads_finish w g e r)
reads_done (table t) w g l e r = table_reads t w r
reads_done (look k) w g l e r = look_reads k w r

pub reads_by : (c : Call) (w : World) {ts : List ℕ} {b : List ReadBlock} → Good w → Live w → ReadsAs ts b w → {x : Step} → How c w x → Next c ts b x
reads_by c w g l r (isnt n e) = nil r
reads_by c w g l r (is e) = reads_done c w g l e r

pub reads_end : (cs : List Call) (w : World) {ts : List ℕ} {b : List ReadBlock} → Good w → Live w → NoEnd cs w → ReadsAs ts b w
    → ReadsAs (ts ++ taken cs w) (b ++ blocks cs w) (end cs w)
unfolding end NoEnd taken blocks
reads_end [] w g l n r = nil r
reads_end (c ∷ cs) w {ts} {b} g l n r =
    let bk = in_hold (told (step c w).answer).block (step c w).world in
    let k = reads_end cs (step c w).world (good_step c w g) (live_step c w l n.0) n.1 (reads_by c w g l r (how c w)) in
    subst (λ (x : List ℕ). ReadsAs x (b ++ (bk ++ blocks cs (step c w).world)) (end cs (step c w).world)) (append_assoc ts (took_of c (step c w).answer) (taken cs (step c w).world))
    (subst (λ (x : List ReadBlock). ReadsAs (ts ++ took_of c (step c w).answer ++ taken cs (step c w).world) x (end cs (step c w).world)) (append_assoc b bk (blocks cs (step c w).world)) k)

-- ---- from the run's start to a moment of it

reads_open : (x : Settings) (w : World) → ReadsAs [] [] (left_force w (opening w.state x w.force w.wait)).world
unfolding rest_of
reads_open x w = record { count = refl; sum = refl; places = []; skips = refl; rest = refl; so = λ zs y. refl }

pub reads_within : (w : World) (before : List Call) (x : Settings) (mid : List Call) → Within w before x mid
    → ReadsAs (taken mid (at_open w before x)) (blocks mid (at_open w before x)) (end mid (at_open w before x))
reads_within w before x mid h =
    let s = stands w before x mid h in
    reads_end mid (at_open w before x) s.good s.live h.no_end (subst⁻¹ (ReadsAs [] []) s.opens.is (reads_open x (end before w)))

-- the run goes by the ceiling that Open was given
pub by_ceiling : (w : World) (before : List Call) (x : Settings) (mid : List Call) → Within w before x mid
    → ceiling_of (end mid (at_open w before x)).state ≡ x.ceiling
by_ceiling w before x mid h = (force.read_end _ _ mid (at_open w before x) (stands w before x mid h).live h.no_end (force.found w before x mid h)).ceiling

pub first_ones_lem : (w : World) (before : List Call) (x : Settings) (mid : List Call) → Within w before x mid
    → ReadSoFar x.ceiling (at_open w before x) mid
first_ones_lem w before x mid h =
    let r = reads_within w before x mid h in
    let top = ceiling_of (end mid (at_open w before x)).state in
    let u = end mid (at_open w before x) in
    let t = taken mid (at_open w before x) in
    let so : (zs : List ℕ) → MayFollow u.state.run.phase zs → read_run top 0 (t ++ zs) ≡ both (record { blocks = blocks mid (at_open w before x); skipped = r.places }) (read_run top (place_now u) (drop (place_now u) t ++ zs)) =
    λ zs y. r.so zs y ∙ ap (λ (k : List ℕ). both (record { blocks = blocks mid (at_open w before x); skipped = r.places }) (read_run top (place_now u) (k ++ zs))) r.rest in
    subst (λ (c : ℕ). ReadSoFar c (at_open w before x) mid) (by_ceiling w before x mid h)
    (record {
      follows = λ zs y. ap (λ (x : Reading). x.blocks) (so zs y);
      skips = λ zs y. ap (λ (x : Reading). length x.skipped) (so zs y) ∙ length-append r.places (read_run top (place_now u) (drop (place_now u) t ++ zs)).skipped
          ∙ ap (λ (k : ℕ). k + length (read_run top (place_now u) (drop (place_now u) t ++ zs)).skipped) (sym r.skips);
      took = r.count;
      counted = r.sum;
    })

-- ---- End

un_nil : {ts : List ℕ} {b : List ReadBlock} {w : World} → ReadsAs (ts ++ []) (b ++ []) w → ReadsAs ts b w
un_nil {ts} {b} {w} r = subst (λ (x : List ℕ). ReadsAs x b w) (append-nil ts) (subst (λ (x : List ReadBlock). ReadsAs (ts ++ []) x w) (append-nil b) r)

record Whole (c : ℕ) (ts : List ℕ) (b : List ReadBlock) (a : Reply) : Type 0 where
  pub all : b ≡ (read_run c 0 ts).blocks
  pub counts : (told a).end ≡ Some (counts_of c ts)

abbrev counting : ℕ → ℕ → ℕ → Counts
counting t b s = record { taken = t; blocks = b; skipped = s }

-- a closed run holds nothing, so all is read
closed_reads : (w : World) {ts : List ℕ} {b : List ReadBlock} → w.state.run.phase ≡ phase.Closed → kept w ≡ [] → ReadsAs ts b w
    → Whole (ceiling_of w.state) ts b (said (ended w.state.run.counts))
closed_reads w {ts} {b} c k r =
    let top = ceiling_of w.state in
    let so : read_run top 0 ts ≡ record { blocks = b; skipped = r.places } =
    ap (read_run top 0) (sym (append-nil ts)) ∙ r.so [] (subst⁻¹ (λ (x : Phase). MayFollow x []) c refl)
    ∙ ap (λ (j : List ℕ). both (record { blocks = b; skipped = r.places }) (read_run top (place_now w) (j ++ []))) k
    ∙ ap (both (record { blocks = b; skipped = r.places })) (read_end top (place_now w))
    ∙ ap₂ (λ (i : List ReadBlock) (j : List ℕ). record { blocks = i; skipped = j }) (append-nil b) (append-nil r.places) in
    let all : b ≡ (read_run top 0 ts).blocks = ap (λ (x : Reading). x.blocks) (sym so) in
    record {
      all = all;
      counts = ap₂ (λ (i j : ℕ). Some (counting i j w.state.run.counts.skipped)) r.count (r.sum ∙ ap length all)
          ∙ ap (λ (i : ℕ). Some (counting (length ts) (length (read_run top 0 ts).blocks) i))
          (r.skips ∙ ap (λ (x : Reading). length x.skipped) (sym so));
    }

ended_reads : (w : World) {ts : List ℕ} {b : List ReadBlock} (o : Option ℕ) (f : Intake) → f.standing ≡ o → Good w → FitsHold w f → (o ≡ None → f.held ≡ [])
    → IsSome (told (said (finish_said o (run_on (phase_after o) w.state.run f) f.held))).end
    → ReadsAs (ts ++ []) (b ++ in_hold (told (said (finish_said o (run_on (phase_after o) w.state.run f) f.held))).block (going (phase_after o) w f)) (going (phase_after o) w f)
    → Whole (ceiling_of w.state) ts b (said (finish_said o (run_on (phase_after o) w.state.run f) f.held))
ended_reads w None f q g h d e r =
    closed_reads (going phase.Closed w f) refl (kept_after phase.Closed w f g h ∙ ap (λ (o : Option ℕ). drop (size o) f.held) q ∙ d refl) (un_nil r)
ended_reads w (Some n) f q g h d e r = let z : ⊥ = cc in absurd z

whole_by : (w : World) {ts : List ℕ} {b : List ReadBlock} → Good w → ReadsAs ts b w → {x : Step} → How finish w x → IsSome (told x.answer).end
    → Whole (ceiling_of w.state) ts b x.answer
unfolding finishing_of
whole_by w g r (isnt k e) n = let z : ⊥ = cc in absurd z
whole_by w g r (is e) n =
    let f = stop (settle (judged_last (ceiling_of w.state)) (kept w)) in
    ended_reads w (settle (judged_last (ceiling_of w.state)) (kept w)).standing f refl g (finish_fits w g) (last_empty (ceiling_of w.state) (kept w)) n (reads_finish w g e r)

-- ---- what Bytes shows of each block is what stands in the hold

shown_feed : (w : World) (piece : List ℕ) → Good w → refusal (feed piece) w ≡ None → Good (done (feed piece) w).world
    → shown (told (done (feed piece) w).answer).block (done (feed piece) w).world ≡ in_hold (told (done (feed piece) w).answer).block (done (feed piece) w).world
unfolding feed_refusal
shown_feed w piece g e k =
    let f = feeding_of w.state w.hold piece in
    shown_is phase.Feeding w f k (with_hold w.state w.hold (passes (sound w.state && long_hold w.hold) 1 _ e).0).1
    (front (run_on phase.Feeding w.state.run f))

shown_finish : (w : World) → Good w → refusal finish w ≡ None → Good (done finish w).world
    → shown (told (done finish w).answer).block (done finish w).world ≡ in_hold (told (done finish w).answer).block (done finish w).world
unfolding finish_refusal
shown_finish w g e k =
    let f = finishing_of w.state w.hold in
    let x = phase_after (finishing_of w.state w.hold).standing in
    let q = finish_report f.standing (run_on x w.state.run f) f.held in
    ap (λ (i : Option Report). shown i (done finish w).world) q
    ∙ shown_is x w f k (with_hold w.state w.hold (passes (sound w.state && long_hold w.hold) 1 _ e).0).1 (front (run_on x w.state.run f))
    ∙ ap (λ (i : Option Report). in_hold i (done finish w).world) (sym q)

shown_table : (t : TableCall) (w : World) → shown (told (table_done t w).answer).block (table_done t w).world ≡ in_hold (told (table_done t w).answer).block (table_done t w).world
shown_table (stage t) w = refl
shown_table withdraw w = refl

shown_look : (l : Look) (w : World) → shown (told (looked l w)).block w ≡ in_hold (told (looked l w)).block w
shown_look bytes w = refl
shown_look (body x i) w = refl
shown_look (sub x k j) w = refl
shown_look (sub_bytes x k) w = refl
shown_look (sub2 x k m j) w = refl
shown_look (range x k) w = refl
shown_look (range2 x k m) w = refl
shown_look (tow x) w = refl
shown_look (wnc x) w = refl
shown_look (write d x) w = refl

shown_done : (c : Call) (w : World) → Good w → refusal c w ≡ None → Good (done c w).world
    → shown (told (done c w).answer).block (done c w).world ≡ in_hold (told (done c w).answer).block (done c w).world
shown_done (open_run x) w g e k = refl
shown_done (feed piece) w g e k = shown_feed w piece g e k
shown_done finish w g e k = shown_finish w g e k
shown_done (table t) w g e k = shown_table t w
shown_done (look l) w g e k = shown_look l w

shown_by : (c : Call) (w : World) → Good w → {x : Step} → How c w x → Good x.world → shown (told x.answer).block x.world ≡ in_hold (told x.answer).block x.world
shown_by c w g (isnt n e) k = refl
shown_by c w g (is e) k = shown_done c w g e k

shown_all : (cs : List Call) (w : World) → Good w → shown_blocks cs w ≡ blocks cs w
unfolding shown_blocks blocks
shown_all [] w g = refl
shown_all (c ∷ cs) w g =
    let k = good_step c w g in
    ap₂ (λ (x y : List ReadBlock). x ++ y) (shown_by c w g (how c w) k) (shown_all cs (step c w).world k)

-- ---- the theorems

pub of_the_whole : (run : List ℕ) (w : World) (before : List Call) (x : Settings) (mid : List Call) → Within w before x mid → Closes w before x mid → taken mid (at_open w before x) ≡ run
    → RunOf x.ceiling run (at_open w before x) mid
of_the_whole run w before x mid h e q =
    let s = stands w before x mid h in
    let u = end mid (at_open w before x) in
    let top = x.ceiling in
    let t =
    subst (λ (c : ℕ). Whole c (taken mid (at_open w before x)) (blocks mid (at_open w before x)) (step finish u).answer) (by_ceiling w before x mid h)
    (whole_by u (good_end mid (at_open w before x) s.good) (reads_within w before x mid h) (how finish u) e) in
    let all : blocks mid (at_open w before x) ≡ (read_run top 0 run).blocks = t.all ∙ ap (λ (v : List ℕ). (read_run top 0 v).blocks) q in
    record {
      all = all;
      shown = shown_all mid (at_open w before x) s.good ∙ all;
      counts = t.counts ∙ ap (λ (v : List ℕ). Some (counts_of top v)) q;
    }
