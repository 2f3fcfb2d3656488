-- What Open, Stage and Withdraw answer and leave (rules C5, C10 to C12, C17), and their refusals in order (R20).
-- Assumes nothing.
use Rattle.std.specs.Prelude.{ℕ, ◌&&◌, ◌||◌, cond, List, [], length, take, ltb, Option, None}
use Rattle.feed.specs.Hold.{over}
use Rattle.frame.specs.Frame.{ceiling_ok}
use Rattle.table.specs.Decode.{decode}
use Rattle.reader.specs.State.{no_counts, sound}
use Rattle.reader.specs.Said.{version, waited}
use Rattle.reader.specs.Refusals.{need, is_closed, long_store, table_refusal}
use Rattle.reader.specs.Outcome.{Outcome, unless}
use Rattle.reader.specs.declared.Phase.TheVariants.{Feeding}
use Rattle.reader.specs.declared.Run.{Run}
use Rattle.reader.specs.declared.Settings.{Settings}
use Rattle.reader.specs.declared.State.{State}

-- ---- Open

-- C5: the table that Open opens with, the waiting one if there is one
abbrev pub next_table : State → List ℕ → List ℕ → List ℕ
next_table s force wait = cond (ltb 0 s.waiting) (take s.waiting wait) (take s.in_force force)

-- R20: 1, 2, 13, 5, 4
unfoldable pub open_refusal : State → Settings → List ℕ → List ℕ → Option ℕ
open_refusal s x force wait =
    need (sound s && long_store force && long_store wait) 1
    (need (is_closed s.run.phase) 2
    (need (ceiling_ok x.ceiling) 13
    (need (ltb 0 s.waiting || ltb 0 s.in_force) 5 (table_refusal (next_table s force wait)))))

-- C5, C17: the run that begins, by the settings given
abbrev pub fresh_run : Settings → Run
fresh_run x = record { phase = Feeding; held = 0; standing = 0; counts = no_counts; settings = x }

-- C5: what Open does
abbrev pub opening : State → Settings → List ℕ → List ℕ → Outcome
opening s x force wait =
    record {
      said = version (decode (next_table s force wait)).version;
      state = record { run = fresh_run x; in_force = cond (ltb 0 s.waiting) s.waiting s.in_force; waiting = 0 };
      lent = cond (ltb 0 s.waiting) (over (take s.waiting wait) force) force;
    }

-- C5, R21: Open
unfoldable pub open_of : State → Settings → List ℕ → List ℕ → Outcome
open_of s x force wait = unless (open_refusal s x force wait) s force (opening s x force wait)

-- ---- Stage and Withdraw

-- R20: 1, 4
unfoldable pub stage_refusal : State → List ℕ → List ℕ → Option ℕ
stage_refusal s wait t = need (sound s && long_store wait) 1 (table_refusal t)

-- C10, C12: what Stage does
abbrev pub staging : State → List ℕ → List ℕ → Outcome
staging s wait t =
    record {
      said = version (decode t).version;
      state = record { run = s.run; in_force = s.in_force; waiting = length t };
      lent = over t wait;
    }

-- C10, R21: Stage
unfoldable pub stage_of : State → List ℕ → List ℕ → Outcome
stage_of s wait t = unless (stage_refusal s wait t) s wait (staging s wait t)

-- R20: 1
unfoldable pub withdraw_refusal : State → Option ℕ
withdraw_refusal s = need (sound s) 1 None

-- C11, C12: what Withdraw does; it is lent nothing (C3)
abbrev pub withdrawing : State → Outcome
withdrawing s =
    record { said = waited (ltb 0 s.waiting); state = record { run = s.run; in_force = s.in_force; waiting = 0 }; lent = [] }

-- C11, R21: Withdraw
unfoldable pub withdraw_of : State → Outcome
withdraw_of s = unless (withdraw_refusal s) s [] (withdrawing s)
