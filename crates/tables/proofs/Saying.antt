-- What Open and Stage say, test by test.
-- Assumes nothing.
use mathlib.Core.Path.{◌≡◌, refl, ap, ap₂, ◌∙◌}
use mathlib.Core.Bool.{Bool, true, false, ◌&&◌, ◌||◌, cond}
use mathlib.Core.List.{List}
use Rattle.std.proofs.Common.{Option, None}
use Prim.Native.Nat.{ℕ, ◌<◌, ◌≤◌}
use lib.ListN.{take}
use lib.Dec.{ltb}
use borrow.Author.Tests.{lt-ltb, le-ltb}
use Rattle.frame.specs.Frame.{ceiling_ok}
use Rattle.table.specs.Rules.{table_ok}
use Rattle.table.specs.Decode.{decode}
use Rattle.reader.specs.State.{sound}
use Rattle.reader.specs.Said.{refused, version}
use Rattle.reader.specs.Refusals.{need, is_closed, long_store, table_refusal}
use Rattle.tables.specs.Calls.{next_table, open_refusal, stage_refusal, opening, open_of, staging, stage_of}
use Rattle.reader.specs.Outcome.{Outcome, unless}
use Rattle.tables.specs.Code.{version_or4}
use Rattle.reader.specs.declared.Settings.{Settings}
use Rattle.reader.specs.declared.State.{State}

-- the last refusal, or the version
table_said : (b : Bool) (t : List ℕ) (s : State) (l : List ℕ) (d : Outcome) → table_ok t ≡ b → d.said ≡ version (decode t).version
    → (unless (need b 4 None) s l d).said ≡ cond b (version (decode t).version) (refused 4)
table_said true t s l d e f = f
table_said false t s l d e f = refl

module _ (s : State) (x : Settings) (force wait : List ℕ) where
  pub open_one : (sound s && long_store force && long_store wait) ≡ false → (open_of s x force wait).said ≡ refused 1
  unfolding open_of open_refusal
  open_one e = simp e

  module _ (one : (sound s && long_store force && long_store wait) ≡ true) where
    pub open_two : is_closed s.run.phase ≡ false → (open_of s x force wait).said ≡ refused 2
    unfolding open_of open_refusal
    open_two e = simp (one, e)

    module _ (two : is_closed s.run.phase ≡ true) where
      pub open_thirteen : ceiling_ok x.ceiling ≡ false → (open_of s x force wait).said ≡ refused 13
      unfolding open_of open_refusal
      open_thirteen e = simp (one, two, e)

      module _ (good : ceiling_ok x.ceiling ≡ true) where
        pub open_five : (ltb 0 s.waiting || ltb 0 s.in_force) ≡ false → (open_of s x force wait).said ≡ refused 5
        unfolding open_of open_refusal
        open_five e = simp (one, two, good, e)

        open_table : (ltb 0 s.waiting || ltb 0 s.in_force) ≡ true → (open_of s x force wait).said ≡ version_or4 (next_table s force wait)
        unfolding open_of open_refusal
        open_table e =
            ap (λ (o : Option ℕ). (unless o s force (opening s x force wait)).said)
            (ap (λ (b : Bool). need b 1 (need (is_closed s.run.phase) 2 (need (ceiling_ok x.ceiling) 13 (need (ltb 0 s.waiting || ltb 0 s.in_force) 5 (table_refusal (next_table s force wait)))))) one
            ∙ ap (λ (b : Bool). need b 2 (need (ceiling_ok x.ceiling) 13 (need (ltb 0 s.waiting || ltb 0 s.in_force) 5 (table_refusal (next_table s force wait))))) two
            ∙ ap (λ (b : Bool). need b 13 (need (ltb 0 s.waiting || ltb 0 s.in_force) 5 (table_refusal (next_table s force wait)))) good
            ∙ ap (λ (b : Bool). need b 5 (table_refusal (next_table s force wait))) e)
            ∙ table_said (table_ok (next_table s force wait)) (next_table s force wait) s force (opening s x force wait) refl refl

        pub open_waiting : 0 < s.waiting → (open_of s x force wait).said ≡ version_or4 (take s.waiting wait)
        open_waiting l =
            open_table (ap (λ (b : Bool). b || ltb 0 s.in_force) (lt-ltb 0 s.waiting l))
            ∙ ap (λ (b : Bool). version_or4 (cond b (take s.waiting wait) (take s.in_force force))) (lt-ltb 0 s.waiting l)

        pub open_in_force : s.waiting ≤ 0 → 0 < s.in_force → (open_of s x force wait).said ≡ version_or4 (take s.in_force force)
        open_in_force n l =
            open_table (ap₂ (λ (a b : Bool). a || b) (le-ltb 0 s.waiting n) (lt-ltb 0 s.in_force l))
            ∙ ap (λ (b : Bool). version_or4 (cond b (take s.waiting wait) (take s.in_force force))) (le-ltb 0 s.waiting n)

        pub open_none : s.waiting ≤ 0 → s.in_force ≤ 0 → (open_of s x force wait).said ≡ refused 5
        open_none n l = open_five (ap₂ (λ (a b : Bool). a || b) (le-ltb 0 s.waiting n) (le-ltb 0 s.in_force l))

module _ (s : State) (wait t : List ℕ) where
  pub stage_one : (sound s && long_store wait) ≡ false → (stage_of s wait t).said ≡ refused 1
  unfolding stage_of stage_refusal
  stage_one e = simp e

  pub stage-table : (sound s && long_store wait) ≡ true → (stage_of s wait t).said ≡ version_or4 t
  unfolding stage_of stage_refusal
  stage-table e =
      ap (λ (b : Bool). (unless (need b 1 (table_refusal t)) s wait (staging s wait t)).said) e
      ∙ table_said (table_ok t) t s wait (staging s wait t) refl refl
