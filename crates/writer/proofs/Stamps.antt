-- TOW and WNc: both are allowed, and one is stored behind the other.
-- Assumes nothing.
use mathlib.Core.List.{List, ◌++◌}
use mathlib.Core.Path.{◌≡◌, sym, ap, ◌∙◌}
use mathlib.Core.Bool.{true}
use Prim.Native.Nat.{ℕ, ◌+◌}
use lib.Dec.{leb-zero}
use lib.ListN.{length}
use lib.Seq.{sets}
use Rattle.kinds.specs.Types.{size_of}
use Rattle.table.specs.Lists.{is_some}
use Rattle.wire.proofs.Tests.{both}
use Rattle.record.specs.Calls.{tow_row, wnc_row}
use Rattle.pen.proofs.Stores.{sets_append}
use Rattle.pen.specs.Bytes.{little_bytes}
use Rattle.entry.specs.Wanted.{Wanted}
use Rattle.entry.specs.Bits.{bits_of, wanted_ok}
use Rattle.draft.specs.Draft.{Draft, stamps_ok}
use Rattle.lay.specs.Fields.{field_out}
use Rattle.lay.proofs.Laying.{length_field}

-- both are carried by any revision
module _ (d : Draft) (e : stamps_ok d ≡ true) where
  pub tow_allowed : is_some (bits_of tow_row d.tow) ≡ true
  unfolding stamps_ok wanted_ok
  tow_allowed = rw (leb-zero d.revision) at (both (wanted_ok d.revision tow_row d.tow) _ e).0

  pub wnc_allowed : is_some (bits_of wnc_row d.wnc) ≡ true
  unfolding stamps_ok wanted_ok
  wnc_allowed = rw (leb-zero d.revision) at (both (wanted_ok d.revision tow_row d.tow) _ e).1

pub stamps_stored : (l : List ℕ) (t w : Wanted) (x y : ℕ) → little_bytes 4 x ≡ field_out tow_row t → little_bytes 2 y ≡ field_out wnc_row w
    → {m n : List ℕ} → m ≡ sets l 8 (little_bytes 4 x) → n ≡ sets m 12 (little_bytes 2 y)
    → n ≡ sets l 8 (field_out tow_row t ++ field_out wnc_row w)
unfolding size_of
stamps_stored l t w x y f g e k =
    let n : 12 ≡ 8 + length (field_out tow_row t) = sym (ap (λ (x : ℕ). 8 + x) (length_field tow_row t)) in
    k ∙ rw (e, f, g)
    (ap (λ (x : ℕ). sets (sets l 8 (field_out tow_row t)) x (field_out wnc_row w)) n ∙ sets_append l 8 (field_out tow_row t) (field_out wnc_row w))
