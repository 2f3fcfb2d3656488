-- One input, one outcome: a contract equates the reading of what a call gives with one definition, and the readings tell answers apart.
-- Assumes nothing.
use mathlib.Core.Path.{◌≡◌, sym, ap, ◌∙◌}
use mathlib.Core.List.{List}
use Rattle.std.proofs.Common.{Option, None, Some, Ok, Err}
use Rattle.refusal.specs.Numbers.{number_for}
use Rattle.refusal.proofs.Numbers.{same_refusal}
use Prim.Native.Nat.{ℕ}
use Rattle.wire.specs.Parts.{offset_by}
use Rattle.walk.specs.declared.Span.{Span}
use Rattle.record.specs.Answer.{FieldSaid}
use Rattle.answers.proofs.Theorems.{one_answer}
use Rattle.reader.specs.Said.{Said}
use Rattle.tables.specs.Said.{said_version, said_withdrawn}
use Rattle.runs.specs.Said.{said_fed, said_finished}
use Rattle.reader.specs.Outcome.{Outcome, outcome}
use Rattle.tables.specs.Calls.{open_of, stage_of, withdraw_of}
use Rattle.runs.specs.Refusals.{bytes_refusal}
use Rattle.runs.specs.Calls.{feed_of, finish_of, bytes_of}
use Rattle.records.specs.Calls.{body_of, sub_of, sub_bytes_of, sub_bytes_refusal, sub_place_of, tow_of, wnc_of}
use Rattle.epochs.specs.Calls.{sub2_of, range_of, range2_of}
use Rattle.writer.specs.Write.{WriteOutcome, write_outcome, written_says}
use Rattle.writes.specs.Calls.{write_of}
use Rattle.demands.specs.One.{One, OnePart, OnePlace, OneTold, OneField, OneWrite, OneOutcome}
use Rattle.demands.proofs.Apart.{checks, versions, feeds, finishes, withdraws, writes}

one_by_lem : {A : Type 0} (said : A → Said) → ((a b : A) → said a ≡ said b → a ≡ b) → (o : Outcome) → One said o
one_by_lem said apart o a b s t l m p q =
    let e : outcome (said a) s l ≡ outcome (said b) t m = p ∙ sym q in
    ((apart a b (ap (λ (x : Outcome). x.said) e), ap (λ (x : Outcome). x.state) e), ap (λ (x : Outcome). x.lent) e)

one_part : (v : List ℕ) (at : ℕ × ℕ) → OnePart v at
one_part v at x y p q e f g h = (e ∙ sym g, f ∙ sym h)

one_place : (n : Option ℕ) (at : Span) → OnePlace n at
one_place n at (Ok x) (Ok y) e f g h = ap Ok (f ∙ sym h)
one_place n at (Ok x) (Err y) e f g h = let z : None ≡ Some (number_for y) = e ∙ sym g in let w : ⊥ = cc in absurd w
one_place n at (Err x) (Ok y) e f g h = let z : None ≡ Some (number_for x) = g ∙ sym e in let w : ⊥ = cc in absurd w
one_place n at (Err x) (Err y) e f g h = let z : Some (number_for x) ≡ Some (number_for y) = e ∙ sym g in let q : number_for x ≡ number_for y = cc in ap Err (same_refusal x y q)

one_told : (n : Option ℕ) → OneTold n
one_told n x y e f = checks x y (e ∙ sym f)

one_field : (said : FieldSaid) → OneField said
one_field said a b p q = one_answer.answers a b said p q

one_write : (o : WriteOutcome) → OneWrite o
one_write o a b l m p q =
    let e : write_outcome (written_says a) l ≡ write_outcome (written_says b) m = p ∙ sym q in
    (writes a b (ap (λ (x : WriteOutcome). x.said) e), ap (λ (x : WriteOutcome). x.buffer) e)

pub one : OneOutcome
one =
    record {
      opens = λ s x force wait. one_by_lem said_version versions (open_of s x force wait);
      feeds = λ s hold piece. one_by_lem said_fed feeds (feed_of s hold piece);
      finishes = λ s hold. one_by_lem said_finished finishes (finish_of s hold);
      stages = λ s wait t. one_by_lem said_version versions (stage_of s wait t);
      withdraws = λ s. one_by_lem said_withdrawn withdraws (withdraw_of s);
      bytes = λ s hold p. one_part (bytes_of s hold) p;
      bytes_refused = λ s hold. one_told (bytes_refusal s hold);
      bodies = λ s force b i. one_field (body_of s force b i);
      subs = λ s force b k j. one_field (sub_of s force b k j);
      sub_bytes = λ s force b p k. one_part (sub_bytes_of s force b k) (offset_by p (sub_place_of s force b k).at);
      sub_bytes_refused = λ s force b k. one_told (sub_bytes_refusal s force b k);
      sub_places = λ s force b k. one_place (sub_bytes_refusal s force b k) (sub_place_of s force b k);
      sub2s = λ s force b k m j. one_field (sub2_of s force b k m j);
      ranges = λ s force b k. one_field (range_of s force b k);
      range2s = λ s force b k m. one_field (range2_of s force b k m);
      tows = λ s b. one_field (tow_of s b);
      wncs = λ s b. one_field (wnc_of s b);
      writes = λ s force d buffer. one_write (write_of s force d buffer);
    }
