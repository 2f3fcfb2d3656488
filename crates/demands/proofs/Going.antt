-- A call that goes on in the run: the hold it leaves, the place where reading goes on, and the block it reports.
-- Assumes nothing.
use Prim.Native.Nat.{ℕ, ◌+◌, ◌-◌, ◌≤◌}
use native.Mathlib.Omega.{arith}
use mathlib.Core.Path.{◌≡◌, refl, ap, ap₂, ◌∙◌}
use mathlib.Core.List.{List, [], ◌∷◌, ◌++◌}
use Rattle.std.proofs.Common.{Option, None, Some}
use lib.ListN.{length, take, drop, length-append, length-drop}
use lib.Seq.{take-append-le}
use borrow.Author.Tests.{le-leb}
use Rattle.scan.specs.Feed.{Intake, size}
use Rattle.framing.specs.ReadRun.{ReadBlock, block_at}
use Rattle.framing.proofs.Reading.{blocks_of}
use Rattle.feed.specs.Hold.{rest_of, hold_of}
use Rattle.feed.proofs.Literally.{goes_on, rest_length}
use Rattle.runs.specs.Refusals.{bytes_refusal}
use Rattle.reader.specs.Counting.{with_run}
use Rattle.runs.specs.Calls.{reported, report_if, front, run_on, finish_said, bytes_of}
use Rattle.reader.specs.declared.Phase.{Phase}
use Rattle.reader.specs.declared.Run.{Run}
use Rattle.runs.proofs.Feeding.{WholeIf}
use Rattle.demands.specs.World.{World, bytes, look, said, told, part_of, step}
use Rattle.demands.specs.Sequence.{with_bytes, in_hold, shown}
use Rattle.demands.proofs.Reached.{Good, good_sound}
use Rattle.demands.specs.Demand2.{place_now}

-- the held bytes without the block last reported, and the place where reading goes on
abbrev pub kept : World → List ℕ
kept w = rest_of w.hold w.state.run.held w.state.run.standing

abbrev pub going : Phase → World → Intake → World
going x w f = record { state = with_run w.state (run_on x w.state.run f); hold = hold_of f w.hold; force = w.force; wait = w.wait }

pub within : (w : World) → Good w → w.state.run.held ≤ w.state.run.counts.taken
within w g = let s = g.sound in omega (arith, s.sum, s.among, s.front)

pub kept_length : (w : World) → Good w → length (kept w) ≡ w.state.run.held - w.state.run.standing
kept_length w g = rest_length w.hold w.state.run.held w.state.run.standing g.sound.front g.there

-- the numbers of a call fit together: the block is whole, and no byte is lost
pub record FitsHold (w : World) (f : Intake) : Type 0 where
  pub whole : WholeIf f.standing f.held
  pub front : size f.standing ≤ length f.held
  pub sum : w.state.run.held - w.state.run.standing + f.taken ≡ length f.passed + length f.held

module _ (x : Phase) (w : World) (f : Intake) (g : Good w) (h : FitsHold w f) where
  pub kept_after : kept (going x w f) ≡ drop (size f.standing) f.held
  kept_after = goes_on f w.hold h.front

  pub place_after : place_now (going x w f) ≡ place_now w + length f.passed + size f.standing
  place_after = omega (arith, within w g, g.sound.front, h.sum, h.front)

  pub front_after : front (run_on x w.state.run f) ≡ place_now w + length f.passed
  front_after = omega (arith, within w g, g.sound.front, h.sum)

-- ---- the block that is reported

-- with its bytes as they stand at the front of the hold
reported_is : (p q n : ℕ) (v hold : List ℕ) → p ≡ q → n ≤ length v → with_bytes (reported p n v) (take n (v ++ drop (length v) hold)) ≡ block_at q n v
unfolding block_at
reported_is p q n v hold e l =
    ap₂ (λ (i : ℕ) (j : List ℕ). with_bytes (reported i n v) j) e (take-append-le n v (drop (length v) hold) l)

in_hold_by : (o : Option ℕ) (p q : ℕ) (v : List ℕ) (u : World) (hold : List ℕ) → u.hold ≡ v ++ drop (length v) hold → p ≡ q → size o ≤ length v
    → in_hold (report_if o p v) u ≡ blocks_of o q v
in_hold_by None p q v u hold a e l = refl
in_hold_by (Some n) p q v u hold a e l =
    ap (λ (b : List ℕ). with_bytes (reported p n v) (take n b) ∷ []) a ∙ ap (λ (b : ReadBlock). b ∷ []) (reported_is p q n v hold e l)

pub finish_report : (o : Option ℕ) (r : Run) (v : List ℕ) → (told (said (finish_said o r v))).block ≡ report_if o (front r) v
finish_report None r v = refl
finish_report (Some n) r v = refl

module _ (x : Phase) (w : World) (f : Intake) (g : Good w) (h : FitsHold w f) where
  pub in_hold_lem : in_hold (report_if f.standing (front (run_on x w.state.run f)) f.held) (going x w f) ≡ blocks_of f.standing (place_now w + length f.passed) f.held
  in_hold_lem =
      in_hold_by f.standing (front (run_on x w.state.run f)) (place_now w + length f.passed) f.held (going x w f) w.hold refl
      (front_after x w f g h) h.front

-- ---- what Bytes shows

pub bytes_told : (w : World) → Good w → 65536 ≤ length w.hold → part_of (step (look bytes) w).answer ≡ take w.state.run.standing w.hold
unfolding step bytes_of bytes_refusal
bytes_told w g l = rw (good_sound w g, le-leb 65536 (length w.hold) l) refl

shown_by : (o : Option ℕ) (p : ℕ) (v : List ℕ) (u : World) → Good u → 65536 ≤ length u.hold → u.state.run.standing ≡ size o
    → shown (report_if o p v) u ≡ in_hold (report_if o p v) u
shown_by None p v u g l e = refl
shown_by (Some n) p v u g l e =
    ap (λ (b : List ℕ). with_bytes (reported p n v) b ∷ []) (bytes_told u g l ∙ ap (λ (k : ℕ). take k u.hold) e)

pub hold_length : (f : Intake) (hold : List ℕ) → length f.held ≤ length hold → length (hold_of f hold) ≡ length hold
hold_length f hold l = omega (arith, length-append f.held (drop (length f.held) hold), length-drop (length f.held) hold)

module _ (x : Phase) (w : World) (f : Intake) (g : Good (going x w f)) (l : 65536 ≤ length w.hold) where
  pub shown_is : (p : ℕ) → shown (report_if f.standing p f.held) (going x w f) ≡ in_hold (report_if f.standing p f.held) (going x w f)
  shown_is p =
      let d = hold_length f w.hold (omega (arith, g.sound.few)) in
      shown_by f.standing p f.held (going x w f) g (omega (arith, d)) refl
