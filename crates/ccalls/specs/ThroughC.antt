-- Calls through C are calls of the reader: the world of a caller in C, what an exported call does in it, and what its answer means. It is
-- made of the very functions that the contracts of the exported calls cite.
-- Assumes nothing.
use Rattle.std.specs.Prelude.{ℕ, ◌≡◌, Bool, true, false, cond, List, [], ◌∷◌, length, eqb, Option, None, Some, unwrap_or}
use Rattle.reader.specs.declared.State.{State}
use Rattle.records.specs.Calls.{sub_place_of}
use Rattle.draft.specs.Draft.{Draft}
use Rattle.writer.specs.Write.{write_outcome}
use Rattle.cform.specs.declared.CAnswer.{CAnswer}
use Rattle.cform.specs.declared.CField.{CField}
use Rattle.cform.specs.declared.CPart.{CPart}
use Rattle.cform.specs.declared.CState.{CState}
use Rattle.cform.specs.State.{settings_c, state_of, state_c}
use Rattle.cform.specs.Theorems.{answer_back, field_back, written_back}
use Rattle.capi.specs.Calls.{Left, open_c, feed_c, finish_c, stage_c, withdraw_c, body_c, sub_c, sub2_c, range_c, range2_c, tow_c, wnc_c, cut, bytes_c, sub_bytes_c, Making, write_c}
use Rattle.demands.specs.World.{World, stage, withdraw, Look, bytes, body, sub, sub_bytes, sub2, range, range2, tow, wnc, write, Call, open_run, feed, finish, table, look, Reply, said, part, value, penned, told, part_of, Step, step, end, Line, ◌⇒◌, trace}

-- the state as C has it, and the three buffers
pub record CWorld : Type 0 where
  pub state : CState
  pub hold : List ℕ
  pub force : List ℕ
  pub wait : List ℕ

-- a world of the reader's, as C has it
abbrev pub world_c : World → CWorld
world_c w = record { state = state_c w.state; hold = w.hold; force = w.force; wait = w.wait }

-- what an exported call answers; Write's answer comes with its buffer
pub data CSaid : Type 0 where
  c_answer : CAnswer → CSaid
  c_field : CField → CSaid
  c_part : CPart → CSaid
  c_made : Making → CSaid

-- ---- what an exported call does

pub record CStep : Type 0 where
  pub answer : CSaid
  pub world : CWorld

-- a reply, and the buffers after it
abbrev pub leaving_c : Left → List ℕ → List ℕ → List ℕ → CStep
leaving_c l hold force wait =
    record { answer = c_answer l.reply.answer; world = record { state = l.reply.state; hold = hold; force = force; wait = wait } }

abbrev pub looked_c : Look → CWorld → CSaid
looked_c bytes w = c_part (bytes_c w.state w.hold).part
looked_c (body b i) w = c_field (body_c w.state w.force b i)
looked_c (sub b k j) w = c_field (sub_c w.state w.force b k j)
looked_c (sub_bytes b k) w = c_part (sub_bytes_c w.state w.force b k).part
looked_c (sub2 b k m j) w = c_field (sub2_c w.state w.force b k m j)
looked_c (range b k) w = c_field (range_c w.state w.force b k)
looked_c (range2 b k m) w = c_field (range2_c w.state w.force b k m)
looked_c (tow b) w = c_field (tow_c w.state b)
looked_c (wnc b) w = c_field (wnc_c w.state b)
looked_c (write d buffer) w = c_made (write_c w.state w.force d buffer)

unfoldable pub step_c : Call → CWorld → CStep
step_c (open_run x) w = let l = open_c w.state (settings_c x) w.force w.wait in leaving_c l w.hold l.lent w.wait
step_c (feed piece) w = let l = feed_c w.state w.hold piece in leaving_c l l.lent w.force w.wait
step_c finish w = let l = finish_c w.state w.hold in leaving_c l l.lent w.force w.wait
step_c (table (stage t)) w = let l = stage_c w.state w.wait t in leaving_c l w.hold w.force l.lent
step_c (table withdraw) w = leaving_c (withdraw_c w.state) w.hold w.force w.wait
step_c (look l) w = record { answer = looked_c l w; world = w }

-- ---- what its answer means

-- a block comes from Feed with a count taken, from Finish without one
abbrev pub is_finish : Call → Bool
is_finish (open_run x) = false
is_finish (feed piece) = false
is_finish finish = true
is_finish (table t) = false
is_finish (look l) = false

-- C's 0 is no refusal
abbrev pub refusal_back : ℕ → Option ℕ
refusal_back n = cond (eqb n 0) None (Some n)

-- what C's offsets count in: the hold, or the block that was given; a call that answers no part has none
abbrev pub looked_in : Look → CWorld → List ℕ
looked_in bytes w = w.hold
looked_in (body b i) w = []
looked_in (sub b k j) w = []
looked_in (sub_bytes b k) w = b
looked_in (sub2 b k m j) w = []
looked_in (range b k) w = []
looked_in (range2 b k m) w = []
looked_in (tow b) w = []
looked_in (wnc b) w = []
looked_in (write d buffer) w = []

abbrev pub counted_in : Call → CWorld → List ℕ
counted_in (open_run x) w = []
counted_in (feed piece) w = []
counted_in finish w = []
counted_in (table t) w = []
counted_in (look l) w = looked_in l w

-- R23: a part is what stands in the buffer from its offset on
abbrev pub reply_back : Call → CWorld → CSaid → Reply
reply_back c w (c_answer a) = said (answer_back (is_finish c) a)
reply_back c w (c_field f) = value (field_back f)
reply_back c w (c_part p) = part (refusal_back p.refusal) (cut p (counted_in c w))
reply_back c w (c_made m) = penned (write_outcome (written_back m.written) m.buffer)

-- ---- the reader's step, made by C

-- a world of C's read back; the state before stands in where C's stands for none
abbrev pub world_back : State → CWorld → World
world_back before w = record { state = unwrap_or (state_of w.state) before; hold = w.hold; force = w.force; wait = w.wait }

-- the call made through C, its answer and what it leaves read back
unfoldable pub step_by_c : Call → World → Step
step_by_c c w =
    let done = step_c c (world_c w) in
    record { answer = reply_back c (world_c w) done.answer; world = world_back w.state done.world }

-- ---- sequences

unfoldable pub end_c : List Call → CWorld → CWorld
end_c [] w = w
end_c (c ∷ cs) w = end_c cs (step_c c w).world

unfoldable pub trace_c : List Call → CWorld → List Line
trace_c [] w = []
trace_c (c ∷ cs) w = c ⇒ reply_back c w (step_c c w).answer ∷ trace_c cs (step_c c w).world

pub record ThroughC : Type 0 where
  -- one call: its answer means the reader's, and it leaves what the reader's leaves
  pub means : (c : Call) (w : World) → reply_back c (world_c w) (step_c c (world_c w)).answer ≡ (step c w).answer
  pub leaves : (c : Call) (w : World) → (step_c c (world_c w)).world ≡ world_c (step c w).world
  -- any calls, one after the other: what the demands say of the reader's answers and worlds, they say of C's
  pub answers : (cs : List Call) (w : World) → trace_c cs (world_c w) ≡ trace cs w
  pub ends : (cs : List Call) (w : World) → end_c cs (world_c w) ≡ world_c (end cs w)
  -- and as one equation of functions: all that is proved of `step` and of what is made of it, D1 to D3 among it, holds with calls through C
  -- in its place
  pub same : step_by_c ≡ step
  -- R23: every state of C's is one of the reader's, or its phase is none: then every call refuses it with 1, hands back no byte, and
  -- changes nothing
  pub known : (s : CState) (t : State) → state_of s ≡ Some t → s ≡ state_c t
  pub unknown : (c : Call) (w : CWorld) → state_of w.state ≡ None → (told (reply_back c w (step_c c w).answer)).refusal ≡ Some 1
  pub empty : (c : Call) (w : CWorld) → state_of w.state ≡ None → part_of (reply_back c w (step_c c w).answer) ≡ []
  pub keeps : (c : Call) (w : CWorld) → state_of w.state ≡ None → (step_c c w).world ≡ w
  pub unwritten : (d : Draft) (buffer : List ℕ) (w : CWorld) → state_of w.state ≡ None
      → (told (reply_back (look (write d buffer)) w (step_c (look (write d buffer)) w).answer)).buffer ≡ Some buffer
  -- C9, C13: C's parts stand where the reader's do, and all their bytes are in the buffer
  pub bytes_at : (s : CState) (hold : List ℕ) → (bytes_c s hold).part.offset ≡ 0
  pub bytes_all : (s : CState) (hold : List ℕ) → length (cut (bytes_c s hold).part hold) ≡ (bytes_c s hold).part.length
  pub sub_bytes_at : (s : State) (force b : List ℕ) (k : ℕ) → (sub_bytes_c (state_c s) force b k).part.offset ≡ (sub_place_of s force b k).at
  pub sub_bytes_all : (s : CState) (force b : List ℕ) (k : ℕ) → length (cut (sub_bytes_c s force b k).part b) ≡ (sub_bytes_c s force b k).part.length
