-- Open and Stage where they are not refused: what their tests say, and the states and copies they leave.
-- Assumes nothing.
use Rattle.std.proofs.Common.{◌≡◌, refl, sym, ap, ap₂, ◌∙◌, true, ◌&&◌, ℕ, ◌+◌, ◌≤◌, None, List, ◌++◌, length, take, drop}
use native.Mathlib.Nat.{zero-add}
use lib.Seq.{paste, length-take-le}
use Rattle.feed.specs.Hold.{over}
use Rattle.table.specs.Rules.{table_ok}
use Rattle.table.proofs.Passed as table
use Rattle.reader.specs.State.{sound}
use Rattle.reader.specs.Said.{refused, version}
use Rattle.reader.specs.Outcome.{outcome}
use Rattle.reader.specs.Refusals.{long_store, table_refusal}
use Rattle.reader.specs.declared.Run.{Run}
use Rattle.reader.specs.declared.Settings.{Settings}
use Rattle.reader.specs.declared.State.{State}
use Rattle.reader.proofs.Accepted.{refused_by_lem, accepted_by, is_done}
use Rattle.reader.proofs.Laws.{passes, Facts, with_store, with_stores}
use Rattle.tables.specs.Calls.{open_refusal, opening, open_of, stage_refusal, staging, stage_of}

-- ---- Open

pub record OpenPassed (s : State) (force wait : List ℕ) : Type 0 where
  pub facts : Facts s
  pub long_force : 8192 ≤ length force
  pub long_wait : 8192 ≤ length wait

pub open_free : (s : State) (x : Settings) (force wait : List ℕ) → open_refusal s x force wait ≡ None → OpenPassed s force wait
unfolding open_refusal
open_free s x force wait e =
    let f = with_stores s force wait (passes (sound s && long_store force && long_store wait) 1 _ e).0 in
    record { facts = f.0; long_force = f.1; long_wait = f.2 }

module _ (s : State) (x : Settings) (force wait : List ℕ) where
  pub open_refused : {n : ℕ} → refused n ≡ (open_of s x force wait).said → outcome (refused n) s force ≡ open_of s x force wait
  unfolding open_of
  open_refused {n} e = sym (refused_by_lem s force (opening s x force wait) (open_refusal s x force wait) n refl (sym e))

  module _ {v : ℕ} (e : version v ≡ (open_of s x force wait).said) where
    free : open_refusal s x force wait ≡ None
    unfolding open_of
    free = accepted_by s force (opening s x force wait) (open_refusal s x force wait) (sym e)

    pub open_done : opening s x force wait ≡ open_of s x force wait
    unfolding open_of
    open_done = is_done s force (opening s x force wait) (open_refusal s x force wait) free

    pub open_passed : OpenPassed s force wait
    open_passed = open_free s x force wait free

-- ---- Stage

pub stage_free : (s : State) (wait t : List ℕ) → stage_refusal s wait t ≡ None → (8192 ≤ length wait) × (table_ok t ≡ true)
unfolding stage_refusal
stage_free s wait t e =
    let p = passes (sound s && long_store wait) 1 (table_refusal t) e in
    ((with_store s wait p.0).1, (passes (table_ok t) 4 None p.1).0)

module _ (s : State) (wait t : List ℕ) where
  pub stage_refused : {n : ℕ} → refused n ≡ (stage_of s wait t).said → outcome (refused n) s wait ≡ stage_of s wait t
  unfolding stage_of
  stage_refused {n} e = sym (refused_by_lem s wait (staging s wait t) (stage_refusal s wait t) n refl (sym e))

  module _ {v : ℕ} (e : version v ≡ (stage_of s wait t).said) where
    clear : stage_refusal s wait t ≡ None
    unfolding stage_of
    clear = accepted_by s wait (staging s wait t) (stage_refusal s wait t) (sym e)

    pub stage_done : staging s wait t ≡ stage_of s wait t
    unfolding stage_of
    stage_done = is_done s wait (staging s wait t) (stage_refusal s wait t) clear

    pub stage_passed : (8192 ≤ length wait) × (length t ≤ 8192)
    stage_passed = let p = stage_free s wait t clear in (p.0, (table.passed t p.1).file.most)

-- ---- states and copies

pub same_state : (x : State) {r : Run} {n m : ℕ} → x.run ≡ r → x.in_force ≡ n → x.waiting ≡ m → x ≡ record { run = r; in_force = n; waiting = m }
same_state x {r} {n} {m} e f g =
    ap (λ (y : Run). record { run = y; in_force = x.in_force; waiting = x.waiting }) e
    ∙ ap₂ (λ (i k : ℕ). record { run = r; in_force = i; waiting = k }) f g

-- a copy to the start of a buffer
pub copied : (buffer t : List ℕ) (n : ℕ) → n ≤ length t → paste buffer 0 (drop 0 t) n ≡ over (take n t) buffer
copied buffer t n l =
    let e : 0 + n ≡ length (take n t) = zero-add n ∙ sym (length-take-le n t l) in
    ap (λ (k : ℕ). take n t ++ drop k buffer) e
