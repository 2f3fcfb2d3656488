-- The readings of the answers tell them apart: equal readings are of equal answers.
-- Assumes nothing.
use Prim.Native.Nat.{ℕ}
use mathlib.Core.Bool.{Bool}
use mathlib.Core.Path.{◌≡◌, refl, sym, ap, ap₂, ◌∙◌}
use Rattle.std.proofs.Common.{Option, None, Some, Result, Ok, Err, option_map}
use Rattle.refusal.specs.Numbers.{number_for, refusal_of}
use Rattle.refusal.specs.declared.Refusal.{Refusal}
use Rattle.refusal.proofs.Numbers.{same_refusal}
use Rattle.reader.specs.Said.{Said, refused, version, waited, Report, report_of, said_of}
use Rattle.runs.specs.Said.{fed, ended_or_found, said_fed, said_finished}
use Rattle.tables.specs.Said.{said_version, said_withdrawn}
use Rattle.reader.specs.declared.Block.{Block}
use Rattle.runs.specs.declared.Fed.{Fed}
use Rattle.runs.specs.declared.Finished.{Finished}
use Rattle.runs.specs.declared.Finished.TheVariants as finished
use Rattle.writer.specs.Write.{written_says}

same_block : (a b : Block) → report_of a ≡ report_of b → a ≡ b
same_block a b e =
    ap₂ (λ (i k : ℕ). record { place = i; number = k; revision = a.revision; length = a.length }) (ap (λ (r : Report). r.place) e) (ap (λ (r : Report). r.number) e)
    ∙ ap₂ (λ (i k : ℕ). record { place = b.place; number = b.number; revision = i; length = k }) (ap (λ (r : Report). r.revision) e) (ap (λ (r : Report). r.size) e)

-- of values of one type: a reading that tells them apart and reads none as a refusal tells their answers apart
module _ {T : Type 0} (read : T → Said) (same : (x y : T) → read x ≡ read y → x ≡ y) (never : (x : T) (n : ℕ) → read x ≡ refused n → ⊥) where
  answers : (a b : Result T Refusal) → said_of read a ≡ said_of read b → a ≡ b
  answers (Ok x) (Ok y) e = ap Ok (same x y e)
  answers (Ok x) (Err y) e = absurd (never x (number_for y) e)
  answers (Err x) (Ok y) e = absurd (never y (number_for x) (sym e))
  answers (Err x) (Err y) e = let q : number_for x ≡ number_for y = cc in ap Err (same_refusal x y q)

pub checks : (a b : Result Unit Refusal) → refusal_of a ≡ refusal_of b → a ≡ b
checks (Ok x) (Ok y) e = refl
checks (Ok x) (Err y) e = let z : ⊥ = cc in absurd z
checks (Err x) (Ok y) e = let z : ⊥ = cc in absurd z
checks (Err x) (Err y) e = let q : number_for x ≡ number_for y = cc in ap Err (same_refusal x y q)

pub versions : (a b : Result ℕ Refusal) → said_version a ≡ said_version b → a ≡ b
versions = answers version (λ v w e. let q : v ≡ w = cc in q) (λ v n e. let z : ⊥ = cc in z)

pub withdraws : (a b : Result Bool Refusal) → said_withdrawn a ≡ said_withdrawn b → a ≡ b
withdraws = answers waited (λ v w e. let q : v ≡ w = cc in q) (λ v n e. let z : ⊥ = cc in z)

same_report : (a b : Option Block) → option_map report_of a ≡ option_map report_of b → a ≡ b
same_report None None e = refl
same_report None (Some b) e = let z : ⊥ = cc in absurd z
same_report (Some a) None e = let z : ⊥ = cc in absurd z
same_report (Some a) (Some b) e = let q : report_of a ≡ report_of b = cc in ap Some (same_block a b q)

same_fed : (a b : Fed) → fed a ≡ fed b → a ≡ b
same_fed a b e =
    let p : a.taken ≡ b.taken = cc in
    let q : option_map report_of a.block ≡ option_map report_of b.block = cc in
    ap₂ (λ (i : ℕ) (k : Option Block). record { taken = i; block = k }) p (same_report a.block b.block q)

pub feeds : (a b : Result Fed Refusal) → said_fed a ≡ said_fed b → a ≡ b
feeds = answers fed same_fed (λ f n e. let z : ⊥ = cc in z)

same_finished : (a b : Finished) → ended_or_found a ≡ ended_or_found b → a ≡ b
same_finished (finished.Block a) (finished.Block b) e = let q : report_of a ≡ report_of b = cc in ap finished.Block (same_block a b q)
same_finished (finished.Block a) (finished.End d) e = let z : ⊥ = cc in absurd z
same_finished (finished.End c) (finished.Block b) e = let z : ⊥ = cc in absurd z
same_finished (finished.End c) (finished.End d) e = let q : c ≡ d = cc in ap finished.End q

no_refusal : (a : Finished) (n : ℕ) → ended_or_found a ≡ refused n → ⊥
no_refusal (finished.Block a) n e = let z : ⊥ = cc in z
no_refusal (finished.End c) n e = let z : ⊥ = cc in z

pub finishes : (a b : Result Finished Refusal) → said_finished a ≡ said_finished b → a ≡ b
finishes = answers ended_or_found same_finished no_refusal

pub writes : (a b : Result ℕ Refusal) → written_says a ≡ written_says b → a ≡ b
writes (Ok m) (Ok n) e = let q : m ≡ n = cc in ap Ok q
writes (Ok m) (Err y) e = let z : ⊥ = cc in absurd z
writes (Err x) (Ok n) e = let z : ⊥ = cc in absurd z
writes (Err x) (Err y) e = let q : number_for x ≡ number_for y = cc in ap Err (same_refusal x y q)
