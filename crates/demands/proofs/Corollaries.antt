-- What the theorems imply: of each single answer, of a run that took all of a stream, of every record of a run.
-- Assumes nothing.
use Prim.Native.Nat.{ℕ}
use mathlib.Core.Path.{◌≡◌, refl, ap, ◌∙◌, subst⁻¹}
use mathlib.Core.List.{List, [], ◌∷◌, ◌++◌}
use Rattle.std.proofs.Common.{Option, None, Some}
use lib.ListN.{length, take}
use lib.Seq.{take-length}
use Rattle.record.specs.Answer.{FieldSaid, do_not_use, double, field_refused, not_in_revision, signed, single, unsigned}
use Rattle.reader.specs.Said.{Report, Said, refused, version, took, found, ended, waited}
use Rattle.tables.specs.Calls.{open_of, stage_of, withdraw_of}
use Rattle.runs.specs.Calls.{feed_of, finish_of, front, reported, finish_said, finishing_by, finishing_of}
use Rattle.table.specs.Rows.{Table}
use Rattle.reader.specs.declared.Counts.{Counts}
use Rattle.reader.specs.declared.Run.{Run}
use Rattle.reader.specs.declared.State.{State}
use Rattle.reader.specs.declared.Settings.{Settings}
use Rattle.demands.specs.World.{World, stage, withdraw, Look, Call, open_run, feed, finish, table, look, Reply, said, part, value, penned, field_refusal, told, Step, step, end, Line, trace}
use Rattle.demands.specs.Sequence.{NoEnd, Within, Closes, at_open, taken}
use Rattle.demands.specs.Demand2.{ReadsBy}
use Rattle.demands.specs.Demand3.{RunOf, Offers, found_by}
use Rattle.demands.proofs.Steps.{How, isnt, is, how}
use Rattle.demands.proofs.Listed.{nothing_there}
use Rattle.demands.proofs.Refusing.{demand_1}
use Rattle.demands.proofs.Stream.{demand_3}

-- ---- what is told of an answer says which it is

pub said_refused : (a : Said) (n : ℕ) → (told (said a)).refusal ≡ Some n → a ≡ refused n
said_refused (refused m) n e = let q : m ≡ n = cc in ap refused q
said_refused (version v) n e = nothing_there e
said_refused (took m r) n e = nothing_there e
said_refused (found r) n e = nothing_there e
said_refused (ended c) n e = nothing_there e
said_refused (waited b) n e = nothing_there e

pub field_refused_lem : (a : FieldSaid) (n : ℕ) → field_refusal a ≡ Some n → a ≡ field_refused n
field_refused_lem (unsigned m) n e = nothing_there e
field_refused_lem (signed z) n e = nothing_there e
field_refused_lem (single b) n e = nothing_there e
field_refused_lem (double b) n e = nothing_there e
field_refused_lem do_not_use n e = nothing_there e
field_refused_lem not_in_revision n e = nothing_there e
field_refused_lem (field_refused m) n e = let q : m ≡ n = cc in ap field_refused q

pub said_end : (a : Reply) (c : Counts) → (told a).end ≡ Some c → a ≡ said (ended c)
said_end (said (refused n)) c e = nothing_there e
said_end (said (version v)) c e = nothing_there e
said_end (said (took n r)) c e = nothing_there e
said_end (said (found r)) c e = nothing_there e
said_end (said (ended d)) c e = let q : d ≡ c = cc in ap (λ (x : Counts). said (ended x)) q
said_end (said (waited b)) c e = nothing_there e
said_end (part n p) c e = nothing_there e
said_end (value v) c e = nothing_there e
said_end (penned o) c e = nothing_there e

-- a block that Finish tells is its answer Block
finish_found : (o : Option ℕ) (r : Run) (v : List ℕ) (b : Report) → (told (said (finish_said o r v))).block ≡ Some b → said (finish_said o r v) ≡ said (found b)
finish_found None r v b e = nothing_there e
finish_found (Some n) r v b e = let q : reported (front r) n v ≡ b = cc in ap (λ (x : Report). said (found x)) q

found_by_lem : (w : World) (b : Report) {x : Step} → How finish w x → (told x.answer).block ≡ Some b → x.answer ≡ said (found b)
found_by_lem w b (isnt n e) f = nothing_there f
found_by_lem w b (is e) f =
    let g = finishing_of w.state w.hold in
    finish_found g.standing (finishing_by g w.state w.hold).state.run g.held b f

pub finish_block : (w : World) (b : Report) → (told (step finish w).answer).block ≡ Some b → (step finish w).answer ≡ said (found b)
finish_block w b e = found_by_lem w b (how finish w) e

-- ---- a refused call keeps the state and the buffer that it may write: of the functions that the contracts cite

abbrev world_of : State → List ℕ → List ℕ → List ℕ → World
world_of s hold force wait = record { state = s; hold = hold; force = force; wait = wait }

abbrev tells_number : {a : Said} {n : ℕ} → a ≡ refused n → (told (said a)).refusal ≡ Some n
tells_number e = ap (λ (x : Said). (told (said x)).refusal) e

pub open_keeps : (s : State) (x : Settings) (force wait : List ℕ) (n : ℕ) → (open_of s x force wait).said ≡ refused n
    → ((open_of s x force wait).state ≡ s) × ((open_of s x force wait).lent ≡ force)
unfolding step
open_keeps s x force wait n e =
    let k = demand_1.keeps (open_run x) (world_of s [] force wait) n (tells_number e) in
    (ap (λ (w : World). w.state) k, ap (λ (w : World). w.force) k)

pub feed_keeps : (s : State) (hold piece : List ℕ) (n : ℕ) → (feed_of s hold piece).said ≡ refused n → ((feed_of s hold piece).state ≡ s) × ((feed_of s hold piece).lent ≡ hold)
unfolding step
feed_keeps s hold piece n e =
    let k = demand_1.keeps (feed piece) (world_of s hold [] []) n (tells_number e) in
    (ap (λ (w : World). w.state) k, ap (λ (w : World). w.hold) k)

pub finish_keeps : (s : State) (hold : List ℕ) (n : ℕ) → (finish_of s hold).said ≡ refused n → ((finish_of s hold).state ≡ s) × ((finish_of s hold).lent ≡ hold)
unfolding step
finish_keeps s hold n e =
    let k = demand_1.keeps finish (world_of s hold [] []) n (tells_number e) in
    (ap (λ (w : World). w.state) k, ap (λ (w : World). w.hold) k)

pub stage_keeps : (s : State) (wait t : List ℕ) (n : ℕ) → (stage_of s wait t).said ≡ refused n → ((stage_of s wait t).state ≡ s) × ((stage_of s wait t).lent ≡ wait)
unfolding step
stage_keeps s wait t n e =
    let k = demand_1.keeps (table (stage t)) (world_of s [] [] wait) n (tells_number e) in
    (ap (λ (w : World). w.state) k, ap (λ (w : World). w.wait) k)

pub withdraw_keeps : (s : State) (n : ℕ) → (withdraw_of s).said ≡ refused n → (withdraw_of s).state ≡ s
unfolding step
withdraw_keeps s n e = ap (λ (w : World). w.state) (demand_1.keeps (table withdraw) (world_of s [] [] []) n (tells_number e))

-- ---- a run that took all of a stream has its blocks and its counts

pub of_the_stream : (s : List ℕ) (w : World) (before : List Call) (x : Settings) (mid : List Call) → Within w before x mid → Closes w before x mid → Offers s mid (at_open w before x)
    → length (taken mid (at_open w before x)) ≡ length s → RunOf x.ceiling s (at_open w before x) mid
of_the_stream s w before x mid h e o n =
    demand_3.whole s w before x mid h e (demand_3.offered s mid (at_open w before x) o ∙ ap (λ (k : ℕ). take k s) n ∙ take-length s)

-- ---- every record of a run is read by the table that it was opened with

abbrev pub CallReadsBy : ℕ → Table → Call → Reply → Type 0
CallReadsBy top tab (open_run x) a = Unit {0}
CallReadsBy top tab (feed piece) a = Unit {0}
CallReadsBy top tab finish a = Unit {0}
CallReadsBy top tab (table t) a = Unit {0}
CallReadsBy top tab (look l) a = ReadsBy top tab l a

unfoldable pub AllBy : ℕ → Table → List Line → Type 0
AllBy top tab [] = Unit {0}
AllBy top tab (x ∷ xs) = CallReadsBy top tab x.call x.answer × AllBy top tab xs

-- what holds of the call after every front of a list holds of all its calls
all_by : (top : ℕ) (tab : Table) (cs : List Call) (w : World) → ((xs ys : List Call) (c : Call) → xs ++ (c ∷ ys) ≡ cs → CallReadsBy top tab c (step c (end xs w)).answer) → AllBy top tab (trace cs w)
unfolding AllBy trace end
all_by top tab [] w h = tt
all_by top tab (c ∷ cs) w h = (h [] cs c refl, all_by top tab cs (step c w).world (λ xs ys d e. h (c ∷ xs) ys d (ap (λ (z : List Call). c ∷ z) e)))

no_end_front : (xs ys : List Call) (w : World) → NoEnd (xs ++ ys) w → NoEnd xs w
unfolding NoEnd
no_end_front [] ys w n = tt
no_end_front (c ∷ xs) ys w n = (n.0, no_end_front xs ys (step c w).world n.1)

-- a front of a run is a moment of it
within_front : (w : World) (before : List Call) (x : Settings) (xs ys mid : List Call) → xs ++ ys ≡ mid → Within w before x mid → Within w before x xs
within_front w before x xs ys mid e h =
    record {
      new = h.new;
      opens = h.opens;
      no_end = no_end_front xs ys (at_open w before x) (subst⁻¹ (λ (cs : List Call). NoEnd cs (at_open w before x)) e h.no_end);
    }

read_by : (top : ℕ) (tab : Table) (c : Call) (w : World) → ((l : Look) → ReadsBy top tab l (step (look l) w).answer) → CallReadsBy top tab c (step c w).answer
read_by top tab (open_run x) w h = tt
read_by top tab (feed piece) w h = tt
read_by top tab finish w h = tt
read_by top tab (table t) w h = tt
read_by top tab (look l) w h = h l

pub one_table : (w : World) (before : List Call) (x : Settings) (mid : List Call) → Within w before x mid → AllBy x.ceiling (found_by (end before w)) (trace mid (at_open w before x))
one_table w before x mid h =
    let tab = found_by (end before w) in
    all_by x.ceiling (found_by (end before w)) mid (at_open w before x)
    (λ xs ys c e. read_by x.ceiling tab c (end xs (at_open w before x)) (demand_3.records w before x xs (within_front w before x xs (c ∷ ys) mid e h)))
