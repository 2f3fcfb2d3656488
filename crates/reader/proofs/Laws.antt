-- What a passed test says: refusals in a row taken apart, and the numbers of a state that refusal 1 does not name.
-- Assumes nothing.
use mathlib.Core.Path.{◌≡◌, refl}
use mathlib.Core.Bool.{Bool, true, false, ◌&&◌}
use mathlib.Core.List.{List}
use Rattle.std.proofs.Common.{Option, None}
use Prim.Native.Nat.{ℕ, ◌≤◌}
use lib.ListN.{length}
use lib.Dec.{leb}
use borrow.Author.Tests.{leb-true}
use Rattle.wire.proofs.Tests.{both_left, both_right}
use Rattle.frame.specs.Frame.{ceiling_ok}
use Rattle.frame.proofs.View.{Ceiling, ceilings}
use Rattle.reader.specs.State.{limit, sound}
use Rattle.reader.specs.Refusals.{need, long_hold, long_store}
use Rattle.reader.specs.declared.State.{State}

-- ---- refusals in a row

pub passes : (b : Bool) (n : ℕ) (rest : Option ℕ) → need b n rest ≡ None → (b ≡ true) × (rest ≡ None)
passes true n rest e = (refl, e)
passes false n rest e = absurd cc

-- ---- a state that refusal 1 does not name

pub record Facts (s : State) : Type 0 where
  pub held : s.run.held ≤ 65532
  pub within : s.run.held ≤ s.run.counts.taken
  pub front : s.run.standing ≤ s.run.held
  pub in_force : s.in_force ≤ 8192
  pub waiting : s.waiting ≤ 8192
  pub taken : s.run.counts.taken ≤ limit
  pub blocks : s.run.counts.blocks ≤ s.run.counts.taken
  pub skipped : s.run.counts.skipped ≤ s.run.counts.taken
  pub ceiling : Ceiling s.run.settings.ceiling

pub facts : (s : State) → sound s ≡ true → Facts s
unfolding sound
facts s e =
    let a = leb s.run.held 65532 in
    let b = leb s.run.held s.run.counts.taken in
    let c = leb s.run.standing s.run.held in
    let d = leb s.in_force 8192 in
    let f = leb s.waiting 8192 in
    let g = leb s.run.counts.taken limit in
    let h = leb s.run.counts.blocks s.run.counts.taken in
    let i = leb s.run.counts.skipped s.run.counts.taken in
    let k = ceiling_ok s.run.settings.ceiling in
    let e8 = both_left (a && b && c && d && f && g && h && i) k e in
    let e7 = both_left (a && b && c && d && f && g && h) i e8 in
    let e6 = both_left (a && b && c && d && f && g) h e7 in
    let e5 = both_left (a && b && c && d && f) g e6 in
    let e4 = both_left (a && b && c && d) f e5 in
    let e3 = both_left (a && b && c) d e4 in
    let e2 = both_left (a && b) c e3 in
    record {
      held = leb-true s.run.held 65532 (both_left a b e2);
      within = leb-true s.run.held s.run.counts.taken (both_right a b e2);
      front = leb-true s.run.standing s.run.held (both_right (a && b) c e3);
      in_force = leb-true s.in_force 8192 (both_right (a && b && c) d e4);
      waiting = leb-true s.waiting 8192 (both_right (a && b && c && d) f e5);
      taken = leb-true s.run.counts.taken limit (both_right (a && b && c && d && f) g e6);
      blocks = leb-true s.run.counts.blocks s.run.counts.taken (both_right (a && b && c && d && f && g) h e7);
      skipped = leb-true s.run.counts.skipped s.run.counts.taken (both_right (a && b && c && d && f && g && h) i e8);
      ceiling = ceilings s.run.settings.ceiling (both_right (a && b && c && d && f && g && h && i) k e);
    }

-- with a hold or a store that is long enough
pub with_hold : (s : State) (hold : List ℕ) → (sound s && long_hold hold) ≡ true → Facts s × (65536 ≤ length hold)
with_hold s hold e = (facts s (both_left (sound s) (long_hold hold) e), leb-true 65536 (length hold) (both_right (sound s) (long_hold hold) e))

pub with_store : (s : State) (store : List ℕ) → (sound s && long_store store) ≡ true → Facts s × (8192 ≤ length store)
with_store s store e = (facts s (both_left (sound s) (long_store store) e), leb-true 8192 (length store) (both_right (sound s) (long_store store) e))

pub with_stores : (s : State) (force wait : List ℕ) → (sound s && long_store force && long_store wait) ≡ true
    → Facts s × (8192 ≤ length force) × (8192 ≤ length wait)
with_stores s force wait e =
    let f = with_store s force (both_left (sound s && long_store force) (long_store wait) e) in
    (f.0, f.1, leb-true 8192 (length wait) (both_right (sound s && long_store force) (long_store wait) e))
