-- D3: of a run among any calls on a new reader: its blocks, their bytes and its counts are those of all its bytes read at once, with the
-- ceiling given at Open, its records are read by the table that it was opened with, and Write writes by it, and its table calls could as well
-- come after it.
-- Assumes nothing.
use Rattle.std.specs.Prelude.{ℕ, ◌≡◌, Bool, true, false, not, cond, List, [], ◌∷◌, ◌++◌, length, take, drop, Some}
use Rattle.framing.specs.ReadRun.{read_run}
use Rattle.table.specs.Decode.{decode}
use Rattle.table.specs.Rows.{Table}
use Rattle.reader.specs.declared.Counts.{Counts}
use Rattle.reader.specs.declared.Settings.{Settings}
use Rattle.tables.specs.Calls.{next_table}
use Rattle.demands.specs.World.{World, Look, Call, open_run, feed, finish, table, look, told, step, end, Line, trace}
use Rattle.demands.specs.Sequence.{piece_of, Within, Closes, at_open, took_of, taken, blocks, shown_blocks}
use Rattle.demands.specs.Demand2.{ReadsBy}

-- C8, F11: the counts of these bytes, read at once with the ceiling c
abbrev pub counts_of : ℕ → List ℕ → Counts
counts_of c run =
    record { taken = length run; blocks = length (read_run c 0 run).blocks; skipped = length (read_run c 0 run).skipped }

-- the calls `mid` in the world w report what `run` reads as with the ceiling c, each block with the bytes that stand in the hold and that
-- Bytes shows; and Finish then answers End with its counts
pub record RunOf (c : ℕ) (run : List ℕ) (w : World) (mid : List Call) : Type 0 where
  pub all : blocks mid w ≡ (read_run c 0 run).blocks
  pub shown : shown_blocks mid w ≡ (read_run c 0 run).blocks
  pub counts : (told (step finish (end mid w)).answer).end ≡ Some (counts_of c run)

-- two runs, of the calls `cs` in the world v and of `ds` in w: the same blocks, in the hold and as Bytes shows them, and the same End
pub record Alike (v : World) (cs : List Call) (w : World) (ds : List Call) : Type 0 where
  pub all : blocks cs v ≡ blocks ds w
  pub shown : shown_blocks cs v ≡ shown_blocks ds w
  pub counts : (told (step finish (end cs v)).answer).end ≡ (told (step finish (end ds w)).answer).end

-- C7: the caller has a stream s, and every piece is the front of what is not yet taken of it
unfoldable pub Offers : List ℕ → List Call → World → Type 0
Offers s [] w = Unit {0}
Offers s (c ∷ cs) w =
    (piece_of c ≡ take (length (piece_of c)) s) × Offers (drop (length (took_of c (step c w).answer)) s) cs (step c w).world

-- C5: the table that Open opens with in this world: the one that waits, or else the one in force
abbrev pub found_by : World → Table
found_by w = decode (next_table w.state w.force w.wait)

-- Stage and Withdraw
abbrev pub is_table : Call → Bool
is_table (open_run x) = false
is_table (feed piece) = false
is_table finish = false
is_table (table t) = true
is_table (look l) = false

-- those that a test holds of, in their order
unfoldable pub those : {A : Type 0} → (A → Bool) → List A → List A
those p [] = []
those p (x ∷ xs) = cond (p x) (x ∷ those p xs) (those p xs)

-- the table calls of a list, and the others
abbrev pub tables : List Call → List Call
tables cs = those is_table cs

abbrev pub others : List Call → List Call
others cs = those (λ c. not (is_table c)) cs

-- the same calls with the same answers, table calls and others each in their order, and the same world at the end
pub record Same (w : World) (xs ys : List Call) : Type 0 where
  pub tabled : those (λ (x : Line). is_table x.call) (trace xs w) ≡ those (λ (x : Line). is_table x.call) (trace ys w)
  pub other : those (λ (x : Line). not (is_table x.call)) (trace xs w) ≡ those (λ (x : Line). not (is_table x.call)) (trace ys w)
  pub last : end xs w ≡ end ys w

pub record Demand3 : Type 0 where
  -- a run that End closed, however its bytes were cut into pieces and whatever calls came between; by C6 it is no longer than D3 allows
  pub whole : (run : List ℕ) (w : World) (before : List Call) (x : Settings) (mid : List Call) → Within w before x mid → Closes w before x mid
      → taken mid (at_open w before x) ≡ run
      → RunOf x.ceiling run (at_open w before x) mid
  -- so two runs of the same bytes with the same ceiling are the same, however they were cut
  pub alike : (v w : World) (earlier before : List Call) (x y : Settings) (cs ds : List Call) → Within v earlier x cs → Closes v earlier x cs
      → Within w before y ds → Closes w before y ds → x.ceiling ≡ y.ceiling
      → taken cs (at_open v earlier x) ≡ taken ds (at_open w before y)
      → Alike (at_open v earlier x) cs (at_open w before y) ds
  -- where the caller offers the untaken rest first, the bytes taken are the front of his stream
  pub offered : (s : List ℕ) (cs : List Call) (w : World) → Offers s cs w → taken cs w ≡ take (length (taken cs w)) s
  -- a record call at any moment of the run answers by the table that it was opened with, and Write writes by it
  pub records : (w : World) (before : List Call) (x : Settings) (mid : List Call) → Within w before x mid → (l : Look)
      → ReadsBy x.ceiling (found_by (end before w)) l (step (look l) (end mid (at_open w before x))).answer
  -- with the table calls of `mid` made after the Finish instead, in their order, all calls answer the same and leave the same world
  pub moved : (w : World) (before : List Call) (x : Settings) (mid after : List Call) → Within w before x mid
      → Same w (before ++ (open_run x ∷ (mid ++ (finish ∷ after)))) (before ++ (open_run x ∷ (others mid ++ (finish ∷ (tables mid ++ after)))))
