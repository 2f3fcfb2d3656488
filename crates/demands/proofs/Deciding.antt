-- D2: after More nothing more can be decided, and records are read by the table in force.
-- Assumes nothing.
use Prim.Native.Nat.{ℕ, ◌-◌}
use native.Mathlib.Omega.{arith}
use mathlib.Core.Path.{◌≡◌, sym, ap, ap₂, ◌∙◌, subst⁻¹}
use mathlib.Core.List.{List, [], ◌∷◌, ◌++◌, append-nil, append_assoc}
use Rattle.std.proofs.Common.{Option, None}
use lib.ListN.{drop}
use Rattle.scan.specs.Feed.{feed_lit, size}
use Rattle.frame.specs.Judge.{judged}
use Rattle.frame.specs.declared.Verdict.TheVariants.{Undecided}
use Rattle.framing.proofs.Calls.{more_decides_all}
use Rattle.table.specs.Decode.{decode}
use Rattle.reader.specs.State.{limit, ceiling_of}
use Rattle.reader.specs.Said.{took}
use Rattle.tables.specs.Calls.{next_table}
use Rattle.records.specs.Calls.{table_in_force}
use Rattle.runs.specs.Calls.{feeding_of, front}
use Rattle.reader.specs.declared.Phase.TheVariants as phase
use Rattle.reader.specs.declared.Settings.{Settings}
use Rattle.demands.specs.World.{World, Look, Call, feed, look, said, Step, step, end}
use Rattle.demands.specs.Sequence.{Within, at_open, took_of, taken}
use Rattle.demands.specs.Demand2.{ReadsBy, place_now, Demand2}
use Rattle.demands.proofs.Steps.{How, isnt, is, how, done}
use Rattle.demands.proofs.Reached.{Good, good_end}
use Rattle.demands.proofs.Live.{live_end, stands}
use Rattle.demands.proofs.Force.{read_end, look_by, found}
use Rattle.demands.proofs.Moving.{end_append}
use Rattle.demands.proofs.Going.{kept, kept_after}
use Rattle.demands.proofs.Calls.{feed_fits}
use Rattle.demands.proofs.Reading.{reads_by, reads_within, by_ceiling, first_ones_lem}
use Rattle.demands.proofs.Ending.{none_if, said_is}

taken_append : (xs : List Call) (c : Call) (w : World) → taken (xs ++ c ∷ []) w ≡ taken xs w ++ took_of c (step c (end xs w)).answer
unfolding taken end
taken_append [] c w = append-nil (took_of c (step c w).answer)
taken_append (x ∷ xs) c w =
    let v = (step x w).world in
    ap (λ (t : List ℕ). took_of x (step x w).answer ++ t) (taken_append xs c v)
    ∙ sym (append_assoc (took_of x (step x w).answer) (taken xs v) (took_of c (step c (end xs v)).answer))

end_one : (xs : List Call) (c : Call) (w : World) → end (xs ++ c ∷ []) w ≡ (step c (end xs w)).world
unfolding end
end_one xs c w = end_append xs (c ∷ []) w

-- what More leaves held begins with an undecided place
left_undecided : (w : World) (piece : List ℕ) (n : ℕ) → Good w → {r : Step} → How (feed piece) w r → r.answer ≡ said (took n None)
    → judged (ceiling_of w.state) (kept r.world) ≡ Undecided
unfolding feeding_of
left_undecided w piece n g (isnt k e) f = let z : ◌≡◌ {A = ℕ} 0 1 = cc in let x : ⊥ = omega arith in absurd x
left_undecided w piece n g (is e) f =
    let room = limit - w.state.run.counts.taken in
    let F = feed_lit (ceiling_of w.state) (kept w) piece (limit - w.state.run.counts.taken) in
    let q = (none_if F.standing F.taken n (front (done (feed piece) w).world.state.run) F.held (said_is _ _ f)).0 in
    ap (judged (ceiling_of w.state)) (kept_after phase.Feeding w F g (feed_fits w piece g) ∙ ap (λ (o : Option ℕ). drop (size o) F.held) q)
    ∙ (more_decides_all (ceiling_of w.state) (kept w) piece room q).1

more_decided : (w : World) (before : List Call) (x : Settings) (mid : List Call) (piece : List ℕ) (n : ℕ) → Within w before x mid
    → (step (feed piece) (end mid (at_open w before x))).answer ≡ said (took n None)
    → judged x.ceiling (drop (place_now (end (mid ++ feed piece ∷ []) (at_open w before x))) (taken (mid ++ feed piece ∷ []) (at_open w before x))) ≡ Undecided
more_decided w before x mid piece n h e =
    let s = stands w before x mid h in
    let u = end mid (at_open w before x) in
    let g = good_end mid (at_open w before x) s.good in
    let r = reads_by (feed piece) u g (live_end mid (at_open w before x) s.live h.no_end) (reads_within w before x mid h) (how (feed piece) u) in
    ap₂ (λ (v : World) (t : List ℕ). judged x.ceiling (drop (place_now v) t)) (end_one mid (feed piece) (at_open w before x)) (taken_append mid (feed piece) (at_open w before x))
    ∙ ap₂ (λ (c : ℕ) (t : List ℕ). judged c t) (sym (by_ceiling w before x mid h)) (sym r.rest) ∙ left_undecided u piece n g (how (feed piece) u) e

by_the_table : (w : World) (before : List Call) (x : Settings) (mid : List Call) → Within w before x mid → (l : Look)
    → ReadsBy x.ceiling (decode (table_in_force (end mid (at_open w before x)).state (end mid (at_open w before x)).force)) l (step (look l) (end mid (at_open w before x))).answer
by_the_table w before x mid h l =
    let s = stands w before x mid h in
    let u = end mid (at_open w before x) in
    let t = next_table (end before w).state (end before w).force (end before w).wait in
    let r = read_end x.ceiling t mid (at_open w before x) s.live h.no_end (found w before x mid h) in
    subst⁻¹ (λ (v : List ℕ). ReadsBy x.ceiling (decode v) l (step (look l) u).answer) r.is (look_by x.ceiling t l u (good_end mid (at_open w before x) s.good) r)

pub demand_2 : Demand2
demand_2 = record { first_ones = first_ones_lem; more = more_decided; records = by_the_table }
