-- `samples::flight_line`: the answers of the story are computed; the facts on field 5 are read off them.
-- Assumes nothing.
use Prim.Native.Nat.{ℕ}
use native.Mathlib.Omega.{arith}
use mathlib.Core.Path.{◌≡◌, refl, sym, ap, ◌∙◌}
use mathlib.Core.List.{map}
use Rattle.std.proofs.Common.{Some}
use Rattle.wire.specs.Little.{little_at}
use Rattle.table.specs.Lists.{pick}
use Rattle.record.specs.Answer.{single}
use Rattle.demands.specs.World.{value, Line}
use Rattle.samples.specs.Transcript.{Transcript}
use Rattle.samples.specs.Flight.{pitch, roll, flight, answered}
use Rattle.samples.proofs.Computed.{computed}
use Rattle.samples.proofs.flight_line.Goals as goal

-- the answer to call i, as the story has it
at : (i : ℕ) → answered i ≡ pick (map (λ (x : Line). x.answer) flight) i
at i = ap (λ (t : Transcript). pick (map (λ (x : Line). x.answer) t) i) computed.story

before : answered 4 ≡ Some (value (single roll))
unfolding pick
before = at 4

after : answered 6 ≡ Some (value (single roll))
unfolding pick
after = at 6

next : answered 10 ≡ Some (value (single pitch))
unfolding pick
next = at 10

differ : answered 6 ≡ answered 10 → ⊥
differ e =
    let f : Some (value (single roll)) ≡ Some (value (single pitch)) = sym after ∙ e ∙ next in
    let g : ◌≡◌ {A = ℕ} roll pitch = cc in
    omega arith

pub returns : goal.returns
unfolding little_at
returns c =
    record {
      story = computed.story;
      before = before;
      after = after ∙ sym before;
      next = next;
      differ = differ;
      roll_bits = refl;
      pitch_bits = refl;
    }
