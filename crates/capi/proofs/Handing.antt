-- Parts for C: an empty one where the call is refused, else the bytes from an offset.
-- Assumes nothing.
use mathlib.Core.Path.{◌≡◌, sym, ap, ap₂, ◌∙◌, subst}
use mathlib.Core.Bool.{false}
use mathlib.Core.List.{List, []}
use Rattle.std.proofs.Common.{Option, None, Some}
use Rattle.std.proofs.lemmas.Option.{none-some}
use Prim.Native.Nat.{ℕ, ◌+◌, ◌≤◌}
use native.Mathlib.Omega.{arith}
use lib.ListN.{length, take, drop}
use lib.Seq.{length-take-le}
use Rattle.walk.specs.declared.Span.{Span}
use Rattle.record.specs.Calls.{sub_slice}
use Rattle.record.proofs.Parts.{part_long}
use Rattle.reader.specs.State.{sound}
use Rattle.reader.specs.declared.State.{State}
use Rattle.runs.specs.Refusals.{bytes_refusal}
use Rattle.reader.specs.Outcome.{part_unless}
use Rattle.runs.specs.Calls.{bytes_of}
use Rattle.records.specs.Calls.{sub_bytes_of, sub_place_of}
use Rattle.records.proofs.Asking.{place_bytes}
use Rattle.reader.proofs.Laws.{passes, with_hold}
use Rattle.cform.specs.State.{Reads}
use Rattle.cform.specs.Answer.{part_c}
use Rattle.capi.specs.Calls.{Handing, handing, hands}
use Rattle.cform.specs.declared.CPart.{CPart}

same_part : {p q : CPart} {a b : List ℕ} → p ≡ q → a ≡ b → ◌≡◌ {A = Handing} (record { part = p; bytes = a }) (record { part = q; bytes = b })
same_part {p} {q} {a} {b} e f = ap₂ (λ (x : CPart) (y : List ℕ). record { part = x; bytes = y }) e f

-- a refused call's part is empty
empty : (buffer : List ℕ) (n : ℕ) {p : CPart} → p ≡ part_c (Some n) 0 0 → handing p buffer ≡ record { part = part_c (Some n) 0 0; bytes = [] }
empty buffer n e = ap (λ (x : CPart). handing x buffer) e

module _ (refusal : State → Option ℕ) (offset : State → ℕ) (bytes : State → List ℕ) (buffer : List ℕ) (refuses : (t : State) → sound t ≡ false → refusal t ≡ Some 1) where
  -- the call was made with t, and is refused with n
  pub hands_none : (o : Option State) (t : State) (n : ℕ) {p : CPart} → Reads o t → refusal t ≡ Some n → bytes t ≡ [] → p ≡ part_c (Some n) 0 0
      → handing p buffer ≡ hands refusal offset bytes o
  hands_none None t n k r b e = empty buffer 1 (e ∙ ap (λ (x : Option ℕ). part_c x 0 0) (sym r ∙ refuses t k))
  hands_none (Some u) t n k r b e =
      empty buffer n e
      ∙ sym (same_part (ap (λ (x : Option ℕ). part_c x (offset u) (length (bytes u))) (ap refusal (sym k) ∙ r)) (ap bytes (sym k) ∙ b))

  pub hands_it : (o : Option State) (t : State) (n : ℕ) {p : CPart} → Reads o t → refusal t ≡ None → p ≡ part_c None (offset t) n → n ≡ length (bytes t)
      → take n (drop (offset t) buffer) ≡ bytes t → handing p buffer ≡ hands refusal offset bytes o
  hands_it None t n k r e l b = absurd (none-some 1 (sym r ∙ refuses t k))
  hands_it (Some u) t n k r e l b =
      ap (λ (x : CPart). handing x buffer) e
      ∙ same_part
      (ap (part_c None (offset t)) l
      ∙ ap (λ (v : State). part_c None (offset v) (length (bytes v))) k
      ∙ sym (ap (λ (x : Option ℕ). part_c x (offset u) (length (bytes u))) (ap refusal (sym k) ∙ r)))
      (b ∙ ap bytes k)

module _ (t : State) (hold : List ℕ) (e : bytes_refusal t hold ≡ None) where
  bytes_are : bytes_of t hold ≡ take t.run.standing hold
  unfolding bytes_of
  bytes_are = ap (λ (o : Option ℕ). part_unless o (take t.run.standing hold)) e

  few : t.run.standing ≤ length hold
  unfolding bytes_refusal
  few = let f = with_hold t hold (passes _ 1 None e).0 in omega (arith, f.0.front, f.0.held, f.1)

  pub bytes_cut : take (length (bytes_of t hold)) (drop 0 hold) ≡ bytes_of t hold
  bytes_cut =
      ap (λ (n : ℕ). take n hold) (ap length bytes_are ∙ length-take-le t.run.standing hold few)
      ∙ sym bytes_are

-- ---- a sub-block's bytes

module _ (t : State) (force block : List ℕ) (k : ℕ) where
  pub sub_cut : take (sub_place_of t force block k).size (drop (sub_place_of t force block k).at block) ≡ sub_bytes_of t force block k
  unfolding sub_slice
  sub_cut = place_bytes t force block k

  -- of the place that the call answered, which lies in the block
  pub sub-length : {s : Span} → s ≡ sub_place_of t force block k → s.at + s.size ≤ length block
      → (sub_place_of t force block k).size ≡ length (sub_bytes_of t force block k)
  sub-length e h =
      sym (part_long block (sub_place_of t force block k) (subst (λ (x : Span). x.at + x.size ≤ length block) e h))
      ∙ ap length (place_bytes t force block k)
