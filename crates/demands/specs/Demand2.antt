-- D2: at every moment of a run the blocks reported are the first ones that its bytes read as, with the ceiling given at Open, none left out,
-- and each field answers what the rules and the table in force give it.
-- Assumes nothing.
use Rattle.std.specs.Prelude.{ℕ, ◌+◌, ◌-◌, ◌≡◌, List, [], ◌∷◌, ◌++◌, length, drop, None}
use Rattle.frame.specs.Judge.{judged}
use Rattle.framing.specs.ReadRun.{read_run}
use Rattle.frame.specs.declared.Verdict.TheVariants.{Undecided}
use Rattle.table.specs.Decode.{decode}
use Rattle.table.specs.Rows.{Table}
use Rattle.record.specs.Calls.{body_field, sub_field, sub_block, sub_block_refusal, tow_row, wnc_row, stamp}
use Rattle.epoch.specs.Second.{second_field}
use Rattle.epoch.specs.Ranges.{range_field, range2_field}
use Rattle.reader.specs.Said.{took}
use Rattle.records.specs.Calls.{table_in_force}
use Rattle.writer.specs.Write.{written_of}
use Rattle.reader.specs.declared.Settings.{Settings}
use Rattle.reader.specs.declared.Phase.{Phase}
use Rattle.reader.specs.declared.Phase.TheVariants.{Closed, Feeding, Finishing}
use Rattle.demands.specs.World.{World, Look, bytes, body, sub, sub_bytes, sub2, range, range2, tow, wnc, write, Call, feed, look, Reply, said, part, value, penned, step, end}
use Rattle.demands.specs.Sequence.{Within, at_open, taken, blocks}

-- C8: the bytes that the run may yet take: none from its first Finish on
abbrev pub MayFollow : Phase → List ℕ → Type 0
MayFollow Closed more = more ≡ []
MayFollow Feeding more = Unit {0}
MayFollow Finishing more = more ≡ []

-- the place where reading goes on: that of the first held byte behind the standing block
abbrev pub place_now : World → ℕ
place_now w = w.state.run.counts.taken - w.state.run.held + w.state.run.standing

-- F11, F14, F16: at a moment of a run read with the ceiling c: whatever follows, the whole run reads as the blocks reported so far and as many
-- skipped bytes as are counted, and then as it reads from the place on
pub record ReadSoFar (c : ℕ) (w : World) (mid : List Call) : Type 0 where
  pub follows : (more : List ℕ) → MayFollow (end mid w).state.run.phase more
      → (read_run c 0 (taken mid w ++ more)).blocks
      ≡ blocks mid w ++ (read_run c (place_now (end mid w)) (drop (place_now (end mid w)) (taken mid w) ++ more)).blocks
  pub skips : (more : List ℕ) → MayFollow (end mid w).state.run.phase more
      → length (read_run c 0 (taken mid w ++ more)).skipped
      ≡ (end mid w).state.run.counts.skipped + length (read_run c (place_now (end mid w)) (drop (place_now (end mid w)) (taken mid w) ++ more)).skipped
  pub took : (end mid w).state.run.counts.taken ≡ length (taken mid w)
  pub counted : (end mid w).state.run.counts.blocks ≡ length (blocks mid w)

-- C13, C16, C17, W1: the answer of a record call is the one under this table, and Write writes by it, under the ceiling c; of Bytes nothing
-- is asked
abbrev pub ReadsBy : ℕ → Table → Look → Reply → Type 0
ReadsBy c tab bytes a = Unit {0}
ReadsBy c tab (body b i) a = a ≡ value (body_field tab b i)
ReadsBy c tab (sub b k j) a = a ≡ value (sub_field tab b k j)
ReadsBy c tab (sub_bytes b k) a = a ≡ part (sub_block_refusal tab b k) (sub_block tab b k)
ReadsBy c tab (sub2 b k m j) a = a ≡ value (second_field tab b k m j)
ReadsBy c tab (range b k) a = a ≡ value (range_field tab b k)
ReadsBy c tab (range2 b k m) a = a ≡ value (range2_field tab b k m)
ReadsBy c tab (tow b) a = a ≡ value (stamp tow_row b)
ReadsBy c tab (wnc b) a = a ≡ value (stamp wnc_row b)
ReadsBy c tab (write d buffer) a = a ≡ penned (written_of c tab d buffer)

pub record Demand2 : Type 0 where
  -- F11: so it is at every moment of every run
  pub first_ones : (w : World) (before : List Call) (x : Settings) (mid : List Call) → Within w before x mid
      → ReadSoFar x.ceiling (at_open w before x) mid
  -- C14: after More the place where reading goes on is undecided (F12) by the bytes taken
  pub more : (w : World) (before : List Call) (x : Settings) (mid : List Call) (piece : List ℕ) (n : ℕ) → Within w before x mid
      → (step (feed piece) (end mid (at_open w before x))).answer ≡ said (took n None)
      → judged x.ceiling (drop (place_now (end (mid ++ feed piece ∷ []) (at_open w before x))) (taken (mid ++ feed piece ∷ []) (at_open w before x))) ≡ Undecided
  -- V7, W1: a record call at a moment of a run is answered by the table in force at that moment, and Write writes by it
  pub records : (w : World) (before : List Call) (x : Settings) (mid : List Call) → Within w before x mid → (l : Look)
      → ReadsBy x.ceiling (decode (table_in_force (end mid (at_open w before x)).state (end mid (at_open w before x)).force)) l (step (look l) (end mid (at_open w before x))).answer
